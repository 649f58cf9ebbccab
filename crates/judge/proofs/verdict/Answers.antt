-- Question 2 is answered behind question 1, with the tables cleared. Assumes nothing.
use Rattle.std.proofs.Common.{refl}
use Rattle.plan_verdict.specs.Verdict.{Refusing, Judgement}
use Rattle.judge.proofs.verdict.Goals as goal

pub returns-then-not-sizes_fit : goal.returns-then-not-sizes_fit
returns-then-not-sizes_fit c =
    Judgement.refused (c.enough.ensures.0 c.if-not-enough.false) _
    (Refusing.by_size (c.sizes_fit.ensures.1 c.if-not-sizes_fit.true) refl c.clear_witness.ensures)
    refl c.clear_sets.ensures c.clear.ensures
