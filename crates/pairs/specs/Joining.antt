-- Walks that meet stand apart after some letter, and the next letter brings both to one state. Assumes nothing.
use Rattle.std.specs.Prelude.{ℕ, zero, suc, ◌+◌, ◌-◌, ◌≤◌, ◌<◌, ◌≡◌}
use Rattle.std.proofs.Common.{sym, ◌∙◌, ap, subst, arith}
use Rattle.std.proofs.Math.Decide.{ℕ_discrete}
use Rattle.automaton.specs.Graph.{Graph, Edge}
use Rattle.automaton.specs.Meeting.{Walk, Meet}

-- where a meeting counts after a transition, it counts before: so of all states, and of those from which an endless path starts
abbrev pub Backwards : Graph → (ℕ → Type 0) → Type 0
Backwards G Counts = (l q r : ℕ) → Edge G l q r → Counts r → Counts q

-- after s letters the walks are in two states, and letter s brings both to one state, which counts
pub record Joins (Counts : ℕ → Type 0) (x y : ℕ → ℕ) (s : ℕ) : Type 0 where
  pub apart : x s ≡ y s → ⊥
  pub joined : x (suc s) ≡ y (suc s)
  pub counts : Counts (x (suc s))

-- a walk's first letters
pub shorter : {G : Graph} {w : ℕ → ℕ} {x : ℕ → ℕ} (t s : ℕ) → s ≤ t → Walk G w t x → Walk G w s x
shorter t s l v = record { starts = v.starts; goes = λ u m. v.goes u (omega arith) }

pub joins-meet : {G : Graph} {Counts : ℕ → Type 0} {w : ℕ → ℕ} {x y : ℕ → ℕ} (s : ℕ)
    → Walk G w (suc s) x → Walk G w (suc s) y → Joins Counts x y s → Meet G Counts w (suc s) x y
joins-meet s v v' j = record { one = v; other = v'; differ = (s, omega arith, j.apart); shared = j.joined; counts = j.counts }

module _ (G : Graph) (Counts : ℕ → Type 0) (back : Backwards G Counts) (w : ℕ → ℕ) (t : ℕ) (x y : ℕ → ℕ) where
  counts-at : Walk G w t x → Counts (x t) → (j u : ℕ) → u + j ≡ t → Counts (x u)
  counts-at v c zero u e = subst Counts (let z : t ≡ u = omega arith in ap x z) c
  counts-at v c (suc j) u e = back (w u) (x u) (x (suc u)) (v.goes u (omega arith)) (counts-at v c j (suc u) (omega arith))

  -- from a time s at which they differ, d letters before the end
  joins-from : (d s : ℕ) → s + d ≡ t → Walk G w t x → x t ≡ y t → Counts (x t) → (x s ≡ y s → ⊥) → (u : ℕ) × (u < t) × Joins Counts x y u
  joins-from zero s e v m c f = absurd (f (let z : s ≡ t = omega arith in ap x z ∙ m ∙ ap y (sym z)))
  joins-from (suc d) s e v m c f = by (ℕ_discrete (x (suc s)) (y (suc s))) (joins-from d (suc s) (omega arith) v m c)
    where
      by : Dec (x (suc s) ≡ y (suc s)) → ((x (suc s) ≡ y (suc s) → ⊥) → (u : ℕ) × (u < t) × Joins Counts x y u) → (u : ℕ) × (u < t) × Joins Counts x y u
      by (no g) ih = ih g
      by (yes g) ih = (s, omega arith, record { apart = f; joined = g; counts = counts-at v c d (suc s) (omega arith) })

  pub meet-joins : Meet G Counts w t x y → (s : ℕ) × (s < t) × Joins Counts x y s
  meet-joins m = let (s, l, f) = m.differ in joins-from (t - s) s (omega arith) m.one m.shared m.counts f
