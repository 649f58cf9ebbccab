-- docs/THEORY.md, section 1: where any path at all takes recurrent transitions without end, the least colour entered without end is not odd.
-- Meeting walks play no part.
use Rattle.std.specs.Prelude.{ℕ, zero, suc, ◌+◌, ◌*◌, ◌≤◌, ◌<◌, ◌≡◌, ◌⊎◌}
use Rattle.std.proofs.Common.{inl, inr, arith}
use Rattle.std.proofs.Math.Decide.{ℕ_discrete, le_ind}
use Rattle.theory.specs.Run.{None, Run, Path, Often}
use Rattle.theory.proofs.Basic.{rank-le, rank-gap, rank-ge, holds, keeps, p-keeps, in-zero, zero-stays}

module _ {n : ℕ} {E M S U W : ℕ → ℕ → ℕ → Type 0} {K : ℕ → ℕ → Type 0} {p col : ℕ → ℕ} {rank : ℕ → ℕ → ℕ}
    (R : Run n E M S U W K p col rank) where
  -- (a) a state in a place from i on comes to one from i on: its place does not rise, and falls where place i is emptied
  lands : (t i k r : ℕ) → 2 * i + 1 ≤ col t → i ≤ k → i ≤ p t → U t k r
      → (k' : ℕ) × (i ≤ k') × (k' ≤ k) × (None (W t i) → k' < k) × S (suc t) k' r
  lands t i k r c l f u =
      let (j, a, b, w) = keeps R t i k r c l u in
      let m = rank-le R t j in
      (rank t j, rank-ge R t i j (holds R t i (omega arith) f) a, omega arith, λ z. low j a b w z (ℕ_discrete i j), R.move t j r w)
    where
      low : (j : ℕ) → i ≤ j → j ≤ k → W t j r → None (W t i) → Dec (i ≡ j) → rank t j < k
      low j a b w z (yes x) = absurd (z r (rw (← x) at w))
      low j a b w z (no x) = let m = rank-gap R t i j z (omega arith) in omega arith

  -- one step of a path
  advance : (t i k q r : ℕ) → 2 * i + 1 ≤ col t → i ≤ k → S t k q → E t q r
      → (k' : ℕ) × (i ≤ k') × (k' ≤ k) × (None (W t i) → k' < k) × S (suc t) k' r
  advance t i k q r c l s e = lands t i k r c l (let f = R.front t k q s in omega arith) (R.old t k q r s e)

  -- a path under colours from 2i + 1 on
  module _ (i T : ℕ) (c : (t : ℕ) → T ≤ t → 2 * i + 1 ≤ col t) (ξ : ℕ → ℕ) (h : Path E S ξ) where
    carry : (t k : ℕ) → T ≤ t → i ≤ k → S t k (ξ t) → (u : ℕ) → t ≤ u → (k' : ℕ) × (i ≤ k') × (k' ≤ k) × S u k' (ξ u)
    carry t k a l s u m = le_ind (λ v. (k' : ℕ) × (i ≤ k') × (k' ≤ k) × S v k' (ξ v)) (k, l, omega arith, s)
        (λ v x (k', y, z, w).
        let (k'', y', z', less, w') = advance v i k' (ξ v) (ξ (suc v)) (c v (omega arith)) y w (h.goes v) in
        (k'', y', omega arith, w')) u m

    -- (d) place i is emptied again and again: the place of the path falls without end
    sink : ((t : ℕ) → (u : ℕ) × (t ≤ u) × None (W u i)) → (f t k : ℕ) → T ≤ t → i ≤ k → k < i + f → S t k (ξ t) → ⊥
    sink empties zero t k a l b s = omega arith
    sink empties (suc f) t k a l b s =
        let (u, m, z) = empties t in
        let (k', y, x, w) = carry t k a l s u m in
        let (k'', y', x', less, w') = advance u i k' (ξ u) (ξ (suc u)) (c u (omega arith)) y w (h.goes u) in
        let d = less z in
        sink empties f (suc u) k'' (omega arith) y' (omega arith) w'

    -- (b) the count of non-empty sets does not fall below i
    p-carry : (t : ℕ) → T ≤ t → i ≤ p t → (u : ℕ) → t ≤ u → i ≤ p u
    p-carry t a l u m = le_ind (λ v. i ≤ p v) l (λ v x y. p-keeps R v i (let d = c v (omega arith) in omega arith) y) u m

    -- (c) at a recurrent transition the path enters a place from i on
    enter : (u : ℕ) → T ≤ u → i ≤ p u → M u (ξ u) (ξ (suc u)) → (k : ℕ) × (i ≤ k) × (k ≤ p u) × S (suc u) k (ξ (suc u))
    enter u a l x =
        let (k, y, y', less, s) = lands u i (p u) (ξ (suc u)) (c u a) l l (R.new u (ξ u) (ξ (suc u)) (in-zero R ξ h u) x) in
        (k, y, y', s)

    no-emptied : Often M ξ → ((t : ℕ) → (u : ℕ) × (t ≤ u) × None (W u i) × (i < p u)) → ⊥
    no-emptied o empties =
        let (u₀, a, z, l) = empties T in
        let (u, b, x) = o u₀ in
        let (k, y, y', s) = enter u (omega arith) (p-carry u₀ a (omega arith) u (omega arith)) x in
        sink (λ t. let (v, d, e, g) = empties t in (v, d, e)) (suc k) (suc u) k (omega arith) y (omega arith) s

  module _ (T : ℕ) (c : (t : ℕ) → T ≤ t → 2 * n + 1 ≤ col t) (ξ : ℕ → ℕ) (h : Path E S ξ) (o : Often M ξ) where
    -- (e) only the neutral colour: the count of non-empty sets grows at every recurrent transition
    climb : (k : ℕ) → (t : ℕ) × (T ≤ t) × (k ≤ p t)
    climb zero = (T, omega arith, omega arith)
    climb (suc k) =
        let (t, a, l) = climb k in
        let (u, b, x) = o t in
        let q : p t ≤ n = R.room t in
        let cu : 2 * n + 1 ≤ col u = c u (omega arith) in
        let q' : p u ≤ n = R.room u in
        let l' : k ≤ p u = p-carry k T (λ v y. let d = c v y in omega arith) ξ h t a l u (omega arith) in
        let (k', y, y', s) = enter (p u) u (λ v y. let d = c v (omega arith) in omega arith) ξ h u (omega arith) (omega arith) x in
        let f = R.front (suc u) k' (ξ (suc u)) s in
        (suc u, omega arith, omega arith)

    no-neutral : ⊥
    no-neutral = let (t, a, l) = climb (suc n) in let q = R.room t in omega arith

  -- the least colour entered without end is not odd
  pub never-odd : (i T : ℕ) → ((t : ℕ) → T ≤ t → 2 * i + 1 ≤ col t) → ((t : ℕ) → (u : ℕ) × (t ≤ u) × (col u ≡ 2 * i + 1))
      → (ξ : ℕ → ℕ) → Path E S ξ → Often M ξ → ⊥
  never-odd i T c often ξ h o = by (ℕ_discrete i n)
    where
      by : Dec (i ≡ n) → ⊥
      by (yes e) = no-neutral T (λ t l. let d = c t l in omega arith) ξ h o
      by (no e) = no-emptied i T c ξ h o (λ t. let (u, l, x) = often t in at-odd u l (R.col-odd u i x))
        where
          at-odd : {t : ℕ} (u : ℕ) → t ≤ u → (i ≡ n) ⊎ (None (W u i) × ((i < p u) ⊎ (i ≡ 0))) → (u : ℕ) × (t ≤ u) × None (W u i) × (i < p u)
          at-odd u l (inl x) = absurd (e x)
          at-odd u l (inr (z, inl x)) = (u, l, z, x)
          at-odd u l (inr (z, inr x)) = absurd (zero-stays R ξ h u (rw x at z))
