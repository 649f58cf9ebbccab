-- Each exit is a case of the contract, by the laws of its parts. Assumes nothing.
use Rattle.std.specs.Prelude.{Result}
use Rattle.passes.specs.declared.Verdict.{Verdict}
use Rattle.gate.specs.declared.Refusal.{Refusal}
use Rattle.std.proofs.Common.{sym, subst}
use Rattle.gate.specs.GateLaws.{passed-up}
use Rattle.automaton.specs.Automaton.{transition_sets}
use Rattle.lent.proofs.LentLaws.{sets-cleared-alike}
use Rattle.plan_verdict.specs.Parts.{PlanJudged}
use Rattle.judging.specs.VerdictLaws.{sheet-refused, plan-answered}
use Rattle.judging.proofs.judge_long.Goals as goal

pub returns-in_err-x : goal.returns-in_err-x
returns-in_err-x c =
    rw (passed-up c.from_residual.result c.in_err-x.field-0.0 c.from_residual.ensures.1) (sheet-refused c.requires.0 c.requires.1 c.in_err-x.ensures.0)

pub returns : goal.returns
returns c =
    let built = c.in_ok-x.ensures.0 in
    let letters = c.in_ok-x.ensures.1.0 in
    let new = c.build_long.new in
    let a = c.args in
    let alike = sets-cleared-alike (transition_sets a.table.now a.marks.now) (transition_sets new.table new.marks) c.build_long.auto.table c.build_long.auto.marks in
    let (same, left) = c.clear_refused.ensures in
    plan-answered c.requires.0 c.requires.1 built letters c.clear_refused.result alike
    (subst (λ (o : Result Verdict Refusal). PlanJudged letters.sheet a.plan.now new.tuples new.nexts c.in_ok-x.x.tuples o) (sym same) (c.judge_plan-judged.ensures.0 letters.sheet letters.names))
    left
