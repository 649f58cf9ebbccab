-- A shortest word with meeting walks has at most n (n + 1) / 2 letters: before they join, the walks are in no pair of states twice. Assumes nothing.
use Rattle.std.specs.Prelude.{ℕ, suc, ◌+◌, ◌*◌, ◌/◌, ◌-◌, ◌≤◌, ◌<◌, ◌≡◌, ◌⊎◌}
use Rattle.std.proofs.Common.{◌∙◌, ap, subst, inl, inr, arith}
use Rattle.std.proofs.Math.Decide.{dec_le}
use Rattle.finite.specs.Finite.{pigeon}
use Rattle.automaton.specs.Graph.{Graph, GraphFits}
use Rattle.automaton.specs.Meeting.{Walk, Meet, NoneShorter}
use Rattle.automaton.specs.Endless.{EndlessFrom}
use Rattle.automaton.specs.EndlessLaws.{endless-back}
use Rattle.automaton.specs.EdgeLaws.{walk-in}
use Rattle.pairs.specs.Triangle.{triangle, triangle-is, triangle-most, pair_number, pair_lt, pair_same}
use Rattle.pairs.specs.Joining.{Backwards, Joins, shorter, joins-meet, meet-joins}
use Rattle.pairs.specs.Cutting.{cut-meet}

module _ (G : Graph) (fits : GraphFits G) (Counts : ℕ → Type 0) (back : Backwards G Counts) (w : ℕ → ℕ) (t : ℕ) (x y : ℕ → ℕ) (m : Meet G Counts w t x y)
    (none : NoneShorter G Counts t) where
  -- the walks join at the last letter, and up to there no pair of states comes twice
  joins-last : (s : ℕ) → s < t → Joins Counts x y s → t ≤ suc s
  joins-last s l j = by (dec_le t (suc s))
    where
      by : Dec (t ≤ suc s) → t ≤ suc s
      by (yes h) = h
      by (no h) = absurd (none w (suc s) x y (omega arith) (joins-meet s (shorter t (suc s) (omega arith) m.one) (shorter t (suc s) (omega arith) m.other) j))

  never-twice : (s u v : ℕ) → s < t → Joins Counts x y s → u < v → v ≤ s → pair_number (x u) (y u) ≡ pair_number (x v) (y v) → ⊥
  never-twice s u v l j h k e = by (pair_same (x u) (y u) (x v) (y v) e)
    where
      vx : Walk G w (suc s) x
      vx = shorter t (suc s) (omega arith) m.one

      vy : Walk G w (suc s) y
      vy = shorter t (suc s) (omega arith) m.other

      o : v ≡ u + (v - u)
      o = omega arith

      by : ((x u ≡ x v) × (y u ≡ y v)) ⊎ ((x u ≡ y v) × (y u ≡ x v)) → ⊥
      by (inl (a, b)) = none _ (suc s - (v - u)) _ _ (omega arith) (cut-meet G Counts w x y x y s u (v - u) (omega arith) (a ∙ ap x o) (b ∙ ap y o) vx vy vx vy j)
      by (inr (a, b)) = none _ (suc s - (v - u)) _ _ (omega arith) (cut-meet G Counts w y x x y s u (v - u) (omega arith) (b ∙ ap x o) (a ∙ ap y o) vy vx vx vy j)

  within-triangle : t ≤ triangle G.n
  within-triangle = let (s, l, j) = meet-joins G Counts back w t x y m in let h = joins-last s l j in by s l j h (dec_le (triangle G.n) s)
    where
      by : (s : ℕ) → s < t → Joins Counts x y s → t ≤ suc s → Dec (triangle G.n ≤ s) → t ≤ triangle G.n
      by s l j h (no z) = omega arith
      by s l j h (yes z) =
          let (u, v, a, b, e) =
          pigeon (triangle G.n) (λ i. pair_number (x i) (y i))
          (λ i k. pair_lt G.n (x i) (y i) (walk-in G fits w t x m.one i (omega arith)) (walk-in G fits w t y m.other i (omega arith))) in
          absurd (never-twice s u v l j a (omega arith) e)

  pub shortest-bound : t ≤ G.n * (G.n + 1) / 2
  shortest-bound = subst (λ i. t ≤ i) (triangle-is G.n) within-triangle

  -- for sixteen states
  pub shortest-136 : t ≤ 136
  shortest-136 = let h = within-triangle in omega (arith, triangle-most G.n fits.range.1)

-- QUESTION 10: a shortest word whose two walks meet at a state that begins an endless path
pub shortest-ten : (G : Graph) → GraphFits G → (w : ℕ → ℕ) (t : ℕ) (x y : ℕ → ℕ) → Meet G (EndlessFrom G) w t x y → NoneShorter G (EndlessFrom G) t → t ≤ 136
shortest-ten G fits w t x y m none = shortest-136 G fits (EndlessFrom G) endless-back w t x y m none
