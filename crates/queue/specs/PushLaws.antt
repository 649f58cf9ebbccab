-- One pair more leaves a queue. Assumes nothing.
use Rattle.std.specs.Prelude.{ℕ, ◌+◌, ◌*◌, ◌%◌, ◌^◌, ◌≤◌, ◌<◌, ◌≡◌, ◌⊎◌, List, get_or, set}
use Rattle.std.proofs.Common.{sym, ◌∙◌, inl, inr, arith, length-set, get_or-set_same, get_or-set_other}
use Rattle.std.proofs.Math.Decide.{dec_lt, ℕ_discrete}
use Rattle.sets.specs.Sets.{Member, union_of}
use Rattle.sets.specs.SetLaws.{union-in, union_left, union_right, bit-single, single-in}
use Rattle.queue.specs.Queue.{pair, origin, companions, depth, one, other, Queued, Queue, Keeps, Longer, Only, Open}
use Rattle.queue.specs.RoomLaws.{not_listed}

module _ {T : List ℕ} {count d p : ℕ} (q o : ℕ) (a : Open T count d p) (hq : q < 16) (room : count < 256) (new : Member (companions T p) q → ⊥) where
  -- the table with one pair more, by three stores
  abbrev first : List ℕ
  first = set T count (256 * d + 16 * p + q)

  abbrev second : List ℕ
  second = set first (256 + count) o

  abbrev last : ℕ
  last = union_of (companions T p) (2 ^ q)

  abbrev pushed : List ℕ
  pushed = set second (512 + p) last

  cell-old : (j : ℕ) → (j ≡ count → ⊥) → (j ≡ 256 + count → ⊥) → (j ≡ 512 + p → ⊥) → get_or pushed j 0 ≡ get_or T j 0
  cell-old j x y z = get_or-set_other second (512 + p) j last 0 z ∙ get_or-set_other first (256 + count) j o 0 y ∙ get_or-set_other T count j (256 * d + 16 * p + q) 0 x

  pair-new : pair pushed count ≡ 256 * d + 16 * p + q
  pair-new =
      get_or-set_other second (512 + p) count last 0 (λ z. omega arith) ∙ get_or-set_other first (256 + count) count o 0 (λ z. omega arith)
      ∙ get_or-set_same T count (256 * d + 16 * p + q) 0 (omega arith)

  origin-new : origin pushed count ≡ o
  origin-new = get_or-set_other second (512 + p) (256 + count) last 0 (λ z. omega arith) ∙ get_or-set_same first (256 + count) o 0 (simp length-set (omega arith))

  companions-new : companions pushed p ≡ union_of (companions T p) (2 ^ q)
  companions-new = get_or-set_same second (512 + p) last 0 (simp length-set (omega arith))

  keeps : Keeps T count pushed
  keeps i l = (cell-old i (λ z. omega arith) (λ z. omega arith) (λ z. omega arith), cell-old (256 + i) (λ z. omega arith) (λ z. omega arith) (λ z. omega arith))

  companions-old : (r : ℕ) → (r ≡ p → ⊥) → companions pushed r ≡ companions T r
  companions-old r f = cell-old (512 + r) (λ z. omega arith) (λ z. omega arith) (λ z. f (omega arith))

  companions-more : (r s : ℕ) → Member (companions T r) s → Member (companions pushed r) s
  companions-more r s h = by (ℕ_discrete r p)
    where
      by : Dec (r ≡ p) → Member (companions pushed r) s
      by (yes e) = rw (e, companions-new) (union_left (companions T p) (2 ^ q) s (rw e at h))
      by (no e) = rw (companions-old r e) h

  -- what the new pair is
  pushed-is : let e = pair pushed count in (depth e ≡ d) × (one e ≡ p) × (other e ≡ q)
  pushed-is = rw pair-new (omega arith, omega arith, omega arith)

  push-queue : Queue pushed (count + 1)
  push-queue = record {
    size = simp length-set a.queue.size;
    room = omega arith;
    early = λ i l. early-at i l (dec_lt i count);
    sorted = λ i j l m. sorted-at i j l m (dec_lt j count);
    once = λ i j l m e. once-at i j l m e (dec_lt j count);
    noted = λ i l. noted-at i l (dec_lt i count);
    listed = λ r s h e. listed_at r s h e (ℕ_discrete r p);
  }
    where
      new-depth : (i : ℕ) → i ≡ count → depth (pair pushed i) ≡ d
      new-depth i e = rw e pushed-is.0

      early-at : (i : ℕ) → i < count + 1 → Dec (i < count) → depth (pair pushed i) ≤ i
      early-at i l (yes m) = rw (keeps i m).0 (a.queue.early i m)
      early-at i l (no m) = let e = new-depth i (omega arith) in let h = a.deep in omega arith

      sorted-at : (i j : ℕ) → i ≤ j → j < count + 1 → Dec (j < count) → depth (pair pushed i) ≤ depth (pair pushed j)
      sorted-at i j l m (yes k) = rw ((keeps i (omega arith)).0, (keeps j k).0) (a.queue.sorted i j l k)
      sorted-at i j l m (no k) = at (dec_lt i count)
        where
          at : Dec (i < count) → depth (pair pushed i) ≤ depth (pair pushed j)
          at (yes h) = let e = new-depth j (omega arith) in let f = (keeps i h).0 in let g = a.most i h in rw f (omega arith)
          at (no h) = let e : i ≡ j = omega arith in rw e (omega arith)

      once-at : (i j : ℕ) → i < j → j < count + 1 → pair pushed i % 256 ≡ pair pushed j % 256 → Dec (j < count) → ⊥
      once-at i j l m e (yes k) = a.queue.once i j l k (rw ((keeps i (omega arith)).0, (keeps j k).0) at e)
      once-at i j l m e (no k) =
          let z : j ≡ count = omega arith in
          let f : pair T i % 256 ≡ (256 * d + 16 * p + q) % 256 = rw ((keeps i (omega arith)).0, z, pair-new) at e in
          let h = a.state in
          not_listed T count p q a.queue a.state hq new i (omega arith) (omega arith)

      noted-at : (i : ℕ) → i < count + 1 → Dec (i < count)
          → Member (companions pushed (one (pair pushed i))) (other (pair pushed i))
      noted-at i l (yes m) = rw (keeps i m).0 (companions-more (one (pair T i)) (other (pair T i)) (a.queue.noted i m))
      noted-at i l (no m) =
          let z : i ≡ count = omega arith in
          rw (z, pushed-is.1, pushed-is.2, companions-new) (union_right (companions T p) (2 ^ q) q (bit-single q))

      old : (r s : ℕ) → Queued T count r s → Queued pushed (count + 1) r s
      old r s (i, l, x, y) = (i, omega arith, rw (keeps i l).0 x, rw (keeps i l).0 y)

      listed_at : (r s : ℕ) → r < 16 → Member (companions pushed r) s → Dec (r ≡ p) → Queued pushed (count + 1) r s
      listed_at r s h e (no f) = old r s (a.queue.listed r s h (rw (companions-old r f) at e))
      listed_at r s h e (yes f) = by (union-in (companions T p) (2 ^ q) s (rw (f, companions-new) at e))
        where
          by : Member (companions T p) s ⊎ Member (2 ^ q) s → Queued pushed (count + 1) r s
          by (inl g) = old r s (a.queue.listed r s h (rw f g))
          by (inr g) = (count, omega arith, pushed-is.1 ∙ sym f, pushed-is.2 ∙ sym (single-in q s g))

  pub push : (x : ℕ) → Member x q → Longer T count d p (Only x q) o pushed (count + 1)
  push x w = record {
    queue = push-queue;
    more = omega arith;
    keeps = keeps;
    most = λ i l. most-at i l (dec_lt i count);
    fresh = λ i l m. (let z : i ≡ count = omega arith in record { deep = rw z pushed-is.0; left = rw z pushed-is.1; right = rw z (pushed-is.2, rw pushed-is.2 w); from = rw z origin-new });
    has = λ r e. (count, omega arith, omega (arith, pushed-is.0), pushed-is.1, pushed-is.2 ∙ sym e.0);
  }
    where
      most-at : (i : ℕ) → i < count + 1 → Dec (i < count) → depth (pair pushed i) ≤ d
      most-at i l (yes m) = rw (keeps i m).0 (a.most i m)
      most-at i l (no m) = let z : i ≡ count = omega arith in rw z (omega (arith, pushed-is.0))
