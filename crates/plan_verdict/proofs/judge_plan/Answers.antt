-- Over each sheet whose names the rows hold the plan is what it is read as, and its letters are fit to be judged. Assumes nothing.
use Rattle.std.proofs.Common.{ℕ, List, ◌≤◌, arith}
use Rattle.format.specs.Format.{Sheet}
use Rattle.parser.specs.LettersOf.{LettersIn}
use Rattle.plan_verdict.specs.PlanLaws.{letters-fit, judged-plan}
use Rattle.plan_verdict.proofs.judge_plan.Goals as goal

-- such a sheet has at most 8 letters
few : (k : ℕ) (rows : List ℕ) → k ≤ 8 → (σ : Sheet) → LettersIn σ k rows → σ.k ≤ 8
few k rows most σ names = let e = names.letters in omega arith

pub judge_letters-requires : goal.judge_letters-requires
judge_letters-requires c =
    let (σ, names) = c.requires.in_bounds.2 in
    let (lead, cycle, plan, m, k, is) = (c.in_ok-z.ensures.1 σ names).1 in
    (c.requires.plan_len_bound.1, letters-fit σ (few _ _ c.requires.in_bounds.1 σ names) names.withdrawals _ lead cycle plan 400 _ _ _ m k is)

pub returns : goal.returns
returns c = (
  λ σ names.
      (let (lead, cycle, plan, m, k, is) = (c.in_ok-z.ensures.1 σ names).1 in
      (lead, cycle, plan, judged-plan σ (few _ _ c.requires.in_bounds.1 σ names) names.withdrawals _ lead cycle plan 400 _ _ _ m k is _ _ _ _ c.judge_letters.ensures)),
  c.in_ok-z.ensures.2,
)
