-- Each table is cleared. Assumes nothing.
use Rattle.automaton.specs.Automaton.{transition_sets}
use Rattle.lent.proofs.LentLaws.{sets-cleared}
use Rattle.lent.proofs.clear_sets.Goals as goal

pub returns : goal.returns
returns c =
    let a = c.args in
    sets-cleared (transition_sets a.table.now a.marks.now) c.clear.ensures c.clear-2.ensures
