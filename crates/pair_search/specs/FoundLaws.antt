-- Every pair of states in which two walks on one word end comes into the queue, at the word's length or before.
-- So where no pair of the queue joins no walks meet, and the first pair that joins has the shortest meeting. Assumes nothing.
use Rattle.std.specs.Prelude.{ℕ, zero, suc, ◌/◌, ◌%◌, ◌≤◌, ◌<◌, ◌≡◌, List}
use Rattle.std.proofs.Common.{sym, ◌∙◌, subst, inl, inr, arith}
use Rattle.std.proofs.Math.Decide.{dec_lt}
use Rattle.sets.specs.Sets.{Member}
use Rattle.automaton.specs.Graph.{Graph, GraphFits}
use Rattle.automaton.specs.Meeting.{Walk, Free, NoneShorter}
use Rattle.pairs.specs.Joining.{Backwards, Joins, meet-joins}
use Rattle.pairs.specs.Extending.{Both, both-start, both-step, both_meet}
use Rattle.pairs.specs.Bound.{shortest-136}
use Rattle.queue.specs.Queue.{pair, origin, depth, one, other, Has}
use Rattle.pair_search.specs.Search.{Justified, AllJustified, JoinsOn, Search, MeetingFound}
use Rattle.automaton.specs.EdgeLaws.{edge_of, edge-letter, initial-lt}

module _ {G : Graph} (fits : GraphFits G) {counts : ℕ} (back : Backwards G (Member counts)) {T : List ℕ} {count head : ℕ} (s : Search G counts T count head) where
  -- all pairs of depth below D are done
  module _ (D : ℕ) (done : (i : ℕ) → i < count → depth (pair T i) < D → i < head) (w : ℕ → ℕ) (t : ℕ) (x y : ℕ → ℕ) (v : Walk G w t x) (v' : Walk G w t y) where
    reached : (u : ℕ) → u ≤ t → u ≤ D → Has T count u (x u) (y u)
    reached zero l m = s.begun (x 0) (y 0) (initial-lt G fits (x 0) v.starts) v.starts v'.starts
    reached (suc u) l m = go (reached u (omega arith) (omega arith))
      where
        go : Has T count u (x u) (y u) → Has T count (suc u) (x (suc u)) (y (suc u))
        go (i, h, d, a, b) =
            let (j, k, e, f, g) =
            s.closed i (done i h (omega arith)) (w u) (x (suc u)) (y (suc u)) (rw a (v.goes u (omega arith))) (rw b (v'.goes u (omega arith))) in
            (j, k, omega arith, f, g)

    none-joins : (u : ℕ) → u < t → u < D → Joins (Member counts) x y u → ⊥
    none-joins u l m j = go (reached u (omega arith) (omega arith))
      where
        go : Has T count u (x u) (y u) → ⊥
        go (i, h, d, a, b) =
            let p = v.goes u l in
            let q = v'.goes u l in
            s.none i (done i h (omega arith)) (w u) (edge-letter G fits (w u) (x u) (x (suc u)) p)
            (record {
              apart = λ e. j.apart (sym a ∙ e ∙ b);
              state = x (suc u);
              left = rw a p.to;
              right = rw (b, j.joined) q.to;
              counted = j.counts;
            })

  none_within : (D : ℕ) → ((i : ℕ) → i < count → depth (pair T i) < D → i < head) → NoneShorter G (Member counts) (suc D)
  none_within D done w t x y l m =
      let (u, h, j) = meet-joins G (Member counts) back w t x y m in
      none-joins D done w t x y m.one m.other u h (omega arith) j

  search-shortest : head < count → NoneShorter G (Member counts) (suc (depth (pair T head)))
  search-shortest l = none_within (depth (pair T head)) (λ i h d. at i h d (dec_lt i head))
    where
      at : (i : ℕ) → i < count → depth (pair T i) < depth (pair T head) → Dec (i < head) → i < head
      at i h d (yes k) = k
      at i h d (no k) = absurd (let z = s.queue.sorted head i (omega arith) h in omega arith)

  pub search-free : count ≤ head → Free G (Member counts)
  search-free l w t x y m = none_within t (λ i h d. omega arith) w t x y (omega arith) m

  -- pair i ends two walks on one word of its depth's length
  ends : AllJustified G T count → (f i : ℕ) → i < f → i < count → Both G (depth (pair T i)) (one (pair T i)) (other (pair T i))
  ends a zero i h l = absurd (omega arith)
  ends a (suc f) i h l = by (a i l) (ends a f)
    where
      by : Justified G T i → ((j : ℕ) → j < f → j < count → Both G (depth (pair T j)) (one (pair T j)) (other (pair T j)))
          → Both G (depth (pair T i)) (one (pair T i)) (other (pair T i))
      by (inl z) ih = rw z.deep (both-start G (one (pair T i)) (other (pair T i)) z.left z.right)
      by (inr z) ih =
          let j = origin T i / 8 in
          let k = z.earlier in
          rw z.deep
          (both-step G (depth (pair T j)) (origin T i % 8) (one (pair T j)) (other (pair T j)) (one (pair T i)) (other (pair T i)) (ih j (omega arith) (omega arith)) z.left z.right)

  pub search-found : head < count → {e l : ℕ} → e ≡ pair T head → l < 8 → JoinsOn G.table counts e l → MeetingFound G counts T head
  search-found h {l = l} is m joins =
      let none = search-shortest h in
      let e = pair T head in
      let j = subst (λ (x : ℕ). JoinsOn G.table counts x l) is joins in
      let (w, x, y, z) =
      both_meet G (Member counts) (depth e) l (one e) (other e) j.state (ends s.justified (suc head) head (omega arith) h) j.apart
      (edge_of G fits l (one e) j.state m j.left) (edge_of G fits l (other e) j.state m j.right) j.counted in
      let most = shortest-136 G fits (Member counts) back w (suc (depth e)) x y z none in
      let room = s.queue.room in
      record { size = s.queue.size; some = omega arith; most = omega arith; justified = λ i k. s.justified i (omega arith); letter = l; low = m; joins = j; shortest = none }
