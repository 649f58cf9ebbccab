-- What reading a plan file answers, and what the lent buffer holds then.
use Rattle.std.specs.Prelude.{ℕ, ◌+◌, ◌≡◌, List, ◌++◌, length, drop, Err, Ok, Result}
use Rattle.plan.specs.declared.PlanLengths.{PlanLengths}
use Rattle.gate.specs.declared.Refusal.{Refusal}
use Rattle.gate.specs.Gate.{RefusedBy, cleared}
use Rattle.format.specs.Format.{Sheet}
use Rattle.plan.specs.Plan.{PlanIs, PlanFaulty}

-- QUESTIONS 12 TO 14 on a plan file over the sheet σ. The letters' buffer is left all zero, or with the lead-in's letters, the cycle's, and
-- behind them what was there.
abbrev pub ReadsPlan : Sheet → List ℕ → List ℕ → List ℕ → Result PlanLengths Refusal → Type 0
ReadsPlan σ p before after (Err r) = RefusedBy (PlanFaulty σ p) r × (after ≡ cleared before)
ReadsPlan σ p before after (Ok z) =
    (lead : List ℕ) × (cycle : List ℕ) × PlanIs σ p lead cycle
    × (z.lead ≡ length lead) × (z.cycle ≡ length cycle) × (after ≡ lead ++ (cycle ++ drop (z.lead + z.cycle) before))
