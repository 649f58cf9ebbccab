-- Each edition has its recurrent transitions. Assumes nothing.
use mathlib.Core.Path.{sym, ◌∙◌, ap}
use Rattle.automaton.specs.SuccessorLaws.{successors-are}
use Rattle.automaton.specs.declared.Edition.{Edition}
use Rattle.tuple.specs.Parts.{recurrent_from}
use Rattle.tuple.proofs.recurrent_of.Goals as goal

pub returns-in-StateBased : goal.returns-in-StateBased
returns-in-StateBased c =
    let g = c.args in
    c.inter.ensures
    ∙ ap (λ (e : Edition). recurrent_from e g.a.recurring g.marks.now g.letter g.old g.first) (sym c.in-StateBased.is)

pub returns-in-TransitionBased : goal.returns-in-TransitionBased
returns-in-TransitionBased c =
    let g = c.args in
    successors-are g.marks.now g.letter g.old _ c.requires c.marked_successors.ensures
    ∙ ap (λ (e : Edition). recurrent_from e g.a.recurring g.marks.now g.letter g.old g.first) (sym c.in-TransitionBased.is)
