-- Cleared tables are all zero and as long as before. Assumes nothing.
use Rattle.automaton.specs.Automaton.{automaton}
use Rattle.lent.specs.Lent.{witness_tables}
use Rattle.walks.specs.CheckLaws.{checked}
use Rattle.walks.proofs.check_long.Goals as goal

pub returns : goal.returns
returns c =
    let a = c.args in
    let g = c.check_cleared in
    checked (witness_tables a.word.now a.one.now a.other.now) c.clear_witness.ensures (automaton a.a a.table.now a.marks.now)
    (witness_tables g.new.word g.new.one g.new.other) g.result g.ensures
