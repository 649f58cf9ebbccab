-- The lengths are asked before a table is touched; then the other questions. Assumes nothing.
use Rattle.automaton.specs.Automaton.{automaton}
use Rattle.lent.specs.Lent.{witness_tables}
use Rattle.walks.specs.CheckLaws.{checks-asked}
use Rattle.walks.proofs.check.Goals as goal

pub returns : goal.returns
returns c =
    let g = c.check_long in
    let a = c.args in
    checks-asked (automaton a.a a.table.now a.marks.now) (witness_tables a.word.now a.one.now a.other.now)
    (witness_tables g.new.word g.new.one g.new.other) g.result (c.long_enough.ensures.0 c.if-not-long_enough.false) g.ensures
