-- Queues made longer by the pairs of one state with the members of a set, one after the other. Assumes nothing.
use Rattle.std.specs.Prelude.{ℕ, ◌+◌, ◌≤◌, ◌<◌, refl, ◌⊎◌, List}
use Rattle.std.proofs.Common.{◌∙◌, inl, inr, arith}
use Rattle.std.proofs.Math.Decide.{dec_lt}
use Rattle.sets.specs.Sets.{Member}
use Rattle.queue.specs.Queue.{pair, companions, other, Has, Keeps, Fresh, Longer, Below, Only, Open}

pub has-longer : (T T' : List ℕ) (count count' d p q : ℕ) → Keeps T count T' → count ≤ count' → Has T count d p q → Has T' count' d p q
has-longer T T' count count' d p q k l (i, h, x, a, b) = let e = (k i h).0 in (i, omega arith, rw e x, rw e a, rw e b)

-- nothing to add
pub unchanged : {T : List ℕ} {count d p o : ℕ} (S : ℕ → Type 0) → Open T count d p → ((q : ℕ) → S q → Member (companions T p) q) → Longer T count d p S o T count
unchanged {p = p} S a f = record {
  queue = a.queue;
  more = omega arith;
  keeps = λ i l. (refl, refl);
  most = a.most;
  fresh = λ i l m. absurd (omega arith);
  has = λ q s. (let (i, l, x, y) = a.queue.listed p q a.state (f q s) in (i, l, a.most i l, x, y));
}

pub open-longer : {T : List ℕ} {count d p : ℕ} {S : ℕ → Type 0} {o : ℕ} {T' : List ℕ} {count' r : ℕ} → r < 16 → d ≤ count → Longer T count d p S o T' count'
    → Open T' count' d r
open-longer h l x = let m = x.more in record { queue = x.queue; most = x.most; deep = omega arith; state = h }

module _ {T : List ℕ} {count d p o : ℕ} {T₁ : List ℕ} {count₁ : ℕ} {T₂ : List ℕ} {count₂ : ℕ} where
  -- first the members of S, then those of S'
  longer-both : (S S' U : ℕ → Type 0) → ((q : ℕ) → U q → S q ⊎ S' q) → ((q : ℕ) → S q → U q) → ((q : ℕ) → S' q → U q)
      → Longer T count d p S o T₁ count₁ → Longer T₁ count₁ d p S' o T₂ count₂ → Longer T count d p U o T₂ count₂
  longer-both S S' U split f g x y =
      let lx = x.more in
      let ly = y.more in
      record {
        queue = y.queue;
        more = omega arith;
        keeps = λ i l. (let k = y.keeps i (omega arith) in let h = x.keeps i l in (k.0 ∙ h.0, k.1 ∙ h.1));
        most = y.most;
        fresh = λ i l m. fresh_at i l m (dec_lt i count₁);
        has = λ q u. has-at q (split q u);
      }
    where
      fresh_at : (i : ℕ) → count ≤ i → i < count₂ → Dec (i < count₁) → Fresh T₂ d p U o i
      fresh_at i l m (yes h) = let k = y.keeps i h in let w = x.fresh i l h in
          record { deep = rw k.0 w.deep; left = rw k.0 w.left; right = rw k.0 (f (other (pair T₁ i)) w.right); from = k.1 ∙ w.from }
      fresh_at i l m (no h) = let w = y.fresh i (omega arith) m in record { deep = w.deep; left = w.left; right = g (other (pair T₂ i)) w.right; from = w.from }

      has-at : (q : ℕ) → S q ⊎ S' q → Has T₂ count₂ d p q
      has-at q (inl s) = has-longer T₁ T₂ count₁ count₂ d p q y.keeps y.more (x.has q s)
      has-at q (inr s) = y.has q s

  -- one member more
  pub row_more : (x q : ℕ) → Longer T count d p (Below x q) o T₁ count₁ → Longer T₁ count₁ d p (Only x q) o T₂ count₂ → Longer T count d p (Below x (q + 1)) o T₂ count₂
  row_more x q = longer-both (Below x q) (Only x q) (Below x (q + 1)) split (λ r s. (omega arith, s.1)) (λ r s. (omega arith, s.1))
    where
      split : (r : ℕ) → Below x (q + 1) r → Below x q r ⊎ Only x q r
      split r (l, m) = by (dec_lt r q)
        where
          by : Dec (r < q) → Below x q r ⊎ Only x q r
          by (yes h) = inl (h, m)
          by (no h) = inr (omega arith, m)
