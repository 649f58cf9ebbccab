-- The edition is that of the number, and the rest is as it came. Assumes nothing.
use Rattle.std.proofs.Common.{ap}
use Rattle.automaton.specs.declared.Edition.{Edition}
use Rattle.answers.specs.Answer.{as_numbers}
use Rattle.answers.proofs.numbers_of.Goals as goal

pub returns : goal.returns
returns c table marks =
    let a = c.args in
    ap (λ (e : Edition). as_numbers e a.n a.k a.initial a.recurring table marks) c.edition_of.ensures
