-- In a longer queue the pairs are there for the same reasons. Assumes nothing.
use Rattle.std.specs.Prelude.{ℕ, ◌/◌, ◌≤◌, ◌<◌, List}
use Rattle.std.proofs.Common.{inl, inr, arith}
use Rattle.std.proofs.Math.Decide.{dec_lt}
use Rattle.automaton.specs.Graph.{Graph}
use Rattle.queue.specs.Queue.{pair, origin, depth, one, other, Keeps, Longer}
use Rattle.pair_search.specs.Search.{Arrives, Justified, AllJustified}

arrives-keeps : (G : Graph) (T T' : List ℕ) (m count d p q o : ℕ) → m ≤ count → Keeps T count T' → Arrives G T m d p q o → Arrives G T' m d p q o
arrives-keeps G T T' m count d p q o l k (inl f) = inl f
arrives-keeps G T T' m count d p q o l k (inr n) =
    let h = n.earlier in
    let e = (k (o / 8) (omega arith)).0 in
    inr (record { earlier = h; deep = rw e n.deep; left = rw e n.left; right = rw e n.right })

arrives-later : (G : Graph) (T : List ℕ) (m count d p q o : ℕ) → m ≤ count → Arrives G T m d p q o → Arrives G T count d p q o
arrives-later G T m count d p q o l (inl f) = inl f
arrives-later G T m count d p q o l (inr n) = let h = n.earlier in inr (record { earlier = omega arith; deep = n.deep; left = n.left; right = n.right })

pub justified-longer : (G : Graph) (T : List ℕ) (count d p : ℕ) (S : ℕ → Type 0) (o : ℕ) (T' : List ℕ) (count' : ℕ)
    → AllJustified G T count → Longer T count d p S o T' count' → ((q : ℕ) → S q → Arrives G T count d p q o) → AllJustified G T' count'
justified-longer G T count d p S o T' count' s x why i l = by (dec_lt i count)
  where
    by : Dec (i < count) → Justified G T' i
    by (yes h) =
        let k = x.keeps i h in
        rw (k.0, k.1) (arrives-keeps G T T' i count (depth (pair T i)) (one (pair T i)) (other (pair T i)) (origin T i) (omega arith) x.keeps (s i h))
    by (no h) =
        let f = x.fresh i (omega arith) l in
        let y = other (pair T' i) in
        let w = arrives-later G T' count i d p y o (omega arith) (arrives-keeps G T T' count count d p y o (omega arith) x.keeps (why y f.right)) in
        rw (f.deep, f.left, f.from) w
