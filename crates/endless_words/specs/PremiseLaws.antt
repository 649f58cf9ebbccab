-- WHERE THE PREMISE IS USED (beside theory's `lpo`, no other law unfolds it but the converse): a row of decidable statements holds without end, or no more from some time on.
use Rattle.std.specs.Prelude.{ℕ, ◌+◌, ◌-◌, ◌≤◌, ◌≡◌, ◌⊎◌}
use Rattle.std.proofs.Math.Bool.{true, decide, decide_iff}
use Rattle.std.proofs.Math.Logic.{inl, inr}
use Rattle.std.proofs.Common.{arith}
use Rattle.theory.specs.Endless.{LPO}

module _ (premise : LPO) where
  -- one of the statements holds, or none
  some_or_none : (P : ℕ → Type 0) → ((t : ℕ) → Dec (P t)) → ((t : ℕ) × P t) ⊎ ((t : ℕ) → P t → ⊥)
  unfolding LPO
  some_or_none P dec = by (premise (λ t. decide (dec t)))
    where
      by : ((t : ℕ) × (decide (dec t) ≡ true)) ⊎ ((t : ℕ) → decide (dec t) ≡ true → ⊥) → ((t : ℕ) × P t) ⊎ ((t : ℕ) → P t → ⊥)
      by (inl (t, e)) = inl (t, (decide_iff (dec t)).0 e)
      by (inr f) = inr (λ t p. f t ((decide_iff (dec t)).1 p))

  module _ (P : ℕ → Type 0) (dec : (t : ℕ) → Dec (P t)) where
    -- none holds from T on
    abbrev Stops : ℕ → Type 0
    Stops T = (k : ℕ) → P (T + k) → ⊥

    again : (T : ℕ) → ((k : ℕ) × P (T + k)) ⊎ Stops T
    again T = some_or_none (λ k. P (T + k)) (λ k. dec (T + k))

    stops-dec : (T : ℕ) → Dec (Stops T)
    stops-dec T = by (again T)
      where
        by : ((k : ℕ) × P (T + k)) ⊎ Stops T → Dec (Stops T)
        by (inl (k, p)) = no (λ f. f k p)
        by (inr f) = yes f

    pub recurs-or-stops : ((t : ℕ) → (u : ℕ) × (t ≤ u) × P u) ⊎ ((T : ℕ) × ((t : ℕ) → T ≤ t → P t → ⊥))
    recurs-or-stops = by (some_or_none Stops stops-dec)
      where
        once_more : (t : ℕ) → (Stops t → ⊥) → ((k : ℕ) × P (t + k)) ⊎ Stops t → (u : ℕ) × (t ≤ u) × P u
        once_more t f (inl (k, p)) = (t + k, omega arith, p)
        once_more t f (inr s) = absurd (f s)

        by : ((T : ℕ) × Stops T) ⊎ ((T : ℕ) → Stops T → ⊥) → ((t : ℕ) → (u : ℕ) × (t ≤ u) × P u) ⊎ ((T : ℕ) × ((t : ℕ) → T ≤ t → P t → ⊥))
        by (inl (T, stops)) = inr (T, λ t l p. stops (t - T) (let e : T + (t - T) ≡ t = omega arith in rw e p))
        by (inr f) = inl (λ t. once_more t (f t) (again t))
