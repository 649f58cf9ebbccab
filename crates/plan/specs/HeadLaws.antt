-- The first line of a plan: it passes or is refused as Plan says. Assumes nothing.
use Rattle.std.specs.Prelude.{ℕ, ◌<◌, ◌≡◌, refl, List, ◌++◌, drop}
use Rattle.std.proofs.Common.{arith}
use Rattle.format.specs.Format.{Sheet}
use Rattle.frame.specs.Phase.{Phase, refused, passed}
use Rattle.frame.specs.FirstLaws.{Kind, line-outcome, line-form, line-right, line-range}
use Rattle.plan.specs.declared.PlanLengths.{PlanLengths}
use Rattle.plan.specs.Plan.{plan_word, plan_head, LengthsRight, PlanFaulty}
use Rattle.plan.specs.Parse.{lengths, plan_bounds, plan_head_of}

abbrev plan_first : Kind
plan_first = record {
  word = plan_word;
  Right = LengthsRight;
  bounds = plan_bounds;
  whole = refl;
  within = λ lead cycle h. (omega arith, h.lead-most, h.cycle-some, h.cycle-most);
  right = λ lead cycle h. record { lead-most = h.1; cycle-some = h.2; cycle-most = h.3 };
}

abbrev pub PlanHeadOutcome : Sheet → List ℕ → Phase PlanLengths → Type 0
PlanHeadOutcome σ p (refused number line) = PlanFaulty σ p number line
PlanHeadOutcome σ p (passed z) = LengthsRight z.lead z.cycle × (p ≡ plan_head z.lead z.cycle ++ drop 11 p)

module _ (p : List ℕ) where
  pub plan-head-outcome : (σ : Sheet) → PlanHeadOutcome σ p (plan_head_of p)
  unfolding plan_head_of plan_head
  plan-head-outcome σ =
      line-outcome plan_first p lengths 12 13 (PlanHeadOutcome σ p) PlanFaulty.head (λ m c hm hc e out. PlanFaulty.range m c (drop 11 p) hm hc e out) (λ m c hm hc e h. (h, e))

  -- The other way round

  pub plan-head-form : ((lead cycle : ℕ) (rest : List ℕ) → lead < 1000 → cycle < 1000 → p ≡ plan_head lead cycle ++ rest → ⊥) → plan_head_of p ≡ refused 12 1
  unfolding plan_head_of plan_head
  plan-head-form none = line-form plan_first p lengths 12 13 none

  module _ (lead cycle : ℕ) (rest : List ℕ) where
    pub plan-head-range : lead < 1000 → cycle < 1000 → p ≡ plan_head lead cycle ++ rest → (LengthsRight lead cycle → ⊥) → plan_head_of p ≡ refused 13 1
    unfolding plan_head_of plan_head
    plan-head-range h g e out = line-range plan_first p lengths 12 13 lead cycle rest h g e out

    pub plan-head-right : LengthsRight lead cycle → p ≡ plan_head lead cycle ++ rest → plan_head_of p ≡ passed (lengths lead cycle)
    unfolding plan_head_of plan_head
    plan-head-right h e = line-right plan_first p lengths 12 13 lead cycle rest (omega (arith, h.lead-most)) (omega (arith, h.cycle-most)) e h
