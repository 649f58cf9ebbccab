-- docs/THEORY.md, section 0, lemmas L1 to L5: where a state comes from, ranks, and what a bound on the colour says of the places below.
use Rattle.std.specs.Prelude.{ℕ, zero, suc, ◌+◌, ◌*◌, ◌≤◌, ◌<◌, ◌≡◌, ◌⊎◌}
use Rattle.std.proofs.Common.{inl, inr, arith}
use Rattle.std.proofs.Math.Decide.{dec_le, dec_lt, le_ind}
use Rattle.finite.specs.Paths.{glue, glue-lt, glue-ge, joined, trace}
use Rattle.theory.specs.Run.{Some, None, Run, Path}

pub at_place : (X : ℕ → ℕ → ℕ → Type 0) {t j k q : ℕ} → j ≡ k → X t j q → X t k q
at_place X {t} {j} {k} {q} e x = rw (← e) x

-- L3: ranks. A count that goes up by one at each non-empty place, and only there
module _ {X : ℕ → ℕ → Type 0} {rank : ℕ → ℕ} (dec : (j : ℕ) → Some (X j) ⊎ None (X j))
    (some : (j : ℕ) → Some (X j) → rank (suc j) ≡ suc (rank j)) (none : (j : ℕ) → None (X j) → rank (suc j) ≡ rank j) where
  rank-next : (j : ℕ) → (rank j ≤ rank (suc j)) × (rank (suc j) ≤ suc (rank j))
  rank-next j = by (dec j)
    where
      by : Some (X j) ⊎ None (X j) → (rank j ≤ rank (suc j)) × (rank (suc j) ≤ suc (rank j))
      by (inl s) = let e = some j s in omega arith
      by (inr s) = let e = none j s in omega arith

  pub rank_mono : (i j : ℕ) → i ≤ j → rank i ≤ rank j
  rank_mono i j l = le_ind (λ j. rank i ≤ rank j) (omega arith) (λ j m h. omega (arith, rank-next j)) j l

module _ {n : ℕ} {E M S U W : ℕ → ℕ → ℕ → Type 0} {K : ℕ → ℕ → Type 0} {p col : ℕ → ℕ} {rank : ℕ → ℕ → ℕ}
    (R : Run n E M S U W K p col rank) where
  -- where a state comes from
  pub has-origin : (t j r : ℕ) → U t j r → ((q : ℕ) × S t j q × E t q r) ⊎ ((q : ℕ) × S t 0 q × M t q r)
  has-origin t j r u = by (dec_lt j (p t))
    where
      by : Dec (j < p t) → ((q : ℕ) × S t j q × E t q r) ⊎ ((q : ℕ) × S t 0 q × M t q r)
      by (yes l) = inl (R.old⁻ t j r l u)
      by (no l) = inr (R.new⁻ t r (at_place U (let m : j ≤ p t = R.none t j r u in omega arith) u))

  -- L1: set 0 loses nothing
  pub zero-kept : (t q r : ℕ) → S t 0 q → E t q r → W t 0 r
  zero-kept t q r s e = by (R.gone t 0 r (R.old t 0 q r s e))
    where
      by : W t 0 r ⊎ ((i : ℕ) × (i < 0) × K t i × W t i r) → W t 0 r
      by (inl w) = w
      by (inr (i, l, k, v)) = absurd (omega arith)

  zero-step : (t q r : ℕ) → S t 0 q → E t q r → S (suc t) 0 r
  zero-step t q r s e = at_place S (R.rank-zero t) (R.move t 0 r (zero-kept t q r s e))

  pred_of : (t : ℕ) → ((k q : ℕ) → S t k q → S t 0 q) → (k r : ℕ) → S (suc t) k r → (q : ℕ) × S t 0 q × E t q r
  pred_of t sub0 k r s = let (j, e, v) = R.move⁻ t k r s in by j (has-origin t j r (R.kept t j r v))
    where
      by : (j : ℕ) → ((q : ℕ) × S t j q × E t q r) ⊎ ((q : ℕ) × S t 0 q × M t q r) → (q : ℕ) × S t 0 q × E t q r
      by j (inl (q, a, b)) = (q, sub0 j q a, b)
      by j (inr (q, a, b)) = (q, a, R.sub t q r b)

  -- L2: every set is inside set 0
  pub inside : (t k q : ℕ) → S t k q → S t 0 q
  inside zero k q s = at_place S (R.first k q s) s
  inside (suc t) k q s = let (x, a, b) = pred_of t (inside t) k q s in zero-step t x q a b

  pred : (t k r : ℕ) → S (suc t) k r → (q : ℕ) × S t 0 q × E t q r
  pred t k r s = pred_of t (inside t) k r s

  -- L2: set 0 is exactly the set of states that paths from the first tuple's set 0 reach
  pub is-reached : (t q : ℕ) → S t 0 q → (x : ℕ → ℕ) × (x t ≡ q) × S 0 0 (x 0) × ((s : ℕ) → s < t → E s (x s) (x (suc s)))
  is-reached t q h =
      let (x, e, sets, goes) = trace E (λ t r. S t 0 r) 0 (λ t r l s. pred t 0 r s) t (omega arith) q h in
      (x, e, sets 0 (omega arith) (omega arith), λ s l. goes s (omega arith) l)

  pub reaches : (t : ℕ) (x : ℕ → ℕ) → S 0 0 (x 0) → ((s : ℕ) → s < t → E s (x s) (x (suc s))) → S t 0 (x t)
  reaches zero x h goes = h
  reaches (suc t) x h goes = zero-step t (x t) (x (suc t)) (reaches t x h (λ s l. goes s (omega arith))) (goes t (omega arith))

  -- so a path from time A on, from a state of set 0, goes on from one that starts at time 0
  pub lead-in : (A : ℕ) (f : ℕ → ℕ) → 0 < A → S A 0 (f A)
      → (g : ℕ → ℕ) × S 0 0 (g 0) × ((s : ℕ) → A ≤ s → g s ≡ f s)
      × ((u : ℕ) → ((s : ℕ) → A ≤ s → s < u → E s (f s) (f (suc s))) → (s : ℕ) → s < u → E s (g s) (g (suc s)))
  lead-in A f l h =
      let (x, e, first, goes) = is-reached A (f A) h in
      let start : glue x f A 0 ≡ x 0 = glue-lt x f A 0 l in
      (glue x f A, rw start first, glue-ge x f A, λ u more. joined E x f A u e goes more)

  -- the ranks of each step
  rank_step : (t j : ℕ) → (rank t j ≤ rank t (suc j)) × (rank t (suc j) ≤ suc (rank t j))
  rank_step t = rank-next (R.dec t) (R.rank-some t) (R.rank-none t)

  pub rank-le : (t j : ℕ) → rank t j ≤ j
  rank-le t zero = let e = R.rank-zero t in omega arith
  rank-le t (suc j) = omega (arith, rank-le t j, rank_step t j)

  -- all of the first i places are non-empty
  abbrev pub Fulls : ℕ → ℕ → Type 0
  Fulls t i = (j : ℕ) → j < i → Some (W t j)

  pub rank-full : (t i : ℕ) → Fulls t i → rank t i ≡ i
  rank-full t zero h = R.rank-zero t
  rank-full t (suc i) h = let a = rank-full t i (λ j l. h j (omega arith)) in let b = R.rank-some t i (h i (omega arith)) in omega arith

  -- an empty place moves all later ones down
  pub rank-gap : (t i j : ℕ) → None (W t i) → i < j → rank t j < j
  rank-gap t i j h l =
      le_ind (λ j. rank t j < j) (omega (arith, R.rank-none t i h, rank-le t i)) (λ j m x. omega (arith, rank_step t j)) j l

  pub rank-ge : (t i j : ℕ) → Fulls t i → i ≤ j → i ≤ rank t j
  rank-ge t i j h l = let a = rank-full t i h in let b = rank_mono (R.dec t) (R.rank-some t) (R.rank-none t) i j l in omega arith

  -- L4: what a bound on the colour says of the places below i: they hold, and none of them is marked
  pub holds : (t i : ℕ) → 2 * i ≤ col t → i ≤ p t → Fulls t i
  holds t i c l j m = by (R.dec t j)
    where
      by : Some (W t j) ⊎ None (W t j) → Some (W t j)
      by (inl s) = s
      by (inr s) = absurd (let a = R.col-gone t j (omega arith) s in omega arith)

  unmarked : (t i j : ℕ) → 2 * i + 1 ≤ col t → j < i → K t j → ⊥
  unmarked t i j c l k = let a = R.col-mark t j k in omega arith

  -- L5: a state in a place from i on stays in one from i on, not later
  pub keeps : (t i k r : ℕ) → 2 * i + 1 ≤ col t → i ≤ k → U t k r → (k' : ℕ) × (i ≤ k') × (k' ≤ k) × W t k' r
  keeps t i k r c l u = by (R.gone t k r u)
    where
      by : W t k r ⊎ ((j : ℕ) × (j < k) × K t j × W t j r) → (k' : ℕ) × (i ≤ k') × (k' ≤ k) × W t k' r
      by (inl w) = (k, l, omega arith, w)
      by (inr (j, m, x, w)) = by2 (dec_le i j)
        where
          by2 : Dec (i ≤ j) → (k' : ℕ) × (i ≤ k') × (k' ≤ k) × W t k' r
          by2 (yes z) = (j, z, omega arith, w)
          by2 (no z) = absurd (unmarked t i j c (omega arith) x)

  -- p does not fall below i
  pub p-keeps : (t i : ℕ) → 2 * i ≤ col t → i ≤ p t → i ≤ p (suc t)
  p-keeps t zero c l = omega arith
  p-keeps t (suc i) c l =
      let h : Fulls t (suc i) = holds t (suc i) c l in
      let (r, w) = h i (omega arith) in
      let s = R.move t i r w in
      let e = rank-full t i (λ j m. h j (omega arith)) in
      let f = R.front (suc t) (rank t i) r s in
      omega arith

  -- a path is in set 0 at every time
  pub in-zero : (ξ : ℕ → ℕ) → Path E S ξ → (t : ℕ) → S t 0 (ξ t)
  in-zero ξ h t = reaches t ξ h.starts (λ s l. h.goes s)

  pub zero-stays : (ξ : ℕ → ℕ) → Path E S ξ → (t : ℕ) → None (W t 0) → ⊥
  zero-stays ξ h t z = z (ξ (suc t)) (zero-kept t (ξ t) (ξ (suc t)) (in-zero ξ h t) (h.goes t))
