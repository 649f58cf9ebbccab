-- The tables are cleared, and then the questions asked. Assumes nothing.
use mathlib.Core.Path.{◌≡◌}
use Rattle.automaton.specs.Automaton.{transition_sets}
use Rattle.lent.specs.Lent.{witness_tables}
use Rattle.reading.specs.Read.{ReadTables, read_tables, lent_cleared}
use Rattle.reading.proofs.ReadLaws.{reads-cleared}
use Rattle.reading.proofs.read_long.Goals as goal
use Rattle.reading.proofs.read_long.Goals.{After-clear_witness, Start}

abbrev lent : Start → ReadTables
lent s = read_tables (transition_sets s.args.table.now s.args.marks.now) s.args.rows.now (witness_tables s.args.word.now s.args.one.now s.args.other.now)

empty : (c : After-clear_witness) →
    let a = c.args in
    let t = c.clear_sets.new in
    let w = c.clear_witness.new in
    read_tables (transition_sets t.table t.marks) a.rows.now (witness_tables w.word w.one w.other)
    ≡ lent_cleared (read_tables (transition_sets a.table.now a.marks.now) a.rows.now (witness_tables a.word.now a.one.now a.other.now))
empty c = λ i. read_tables (c.clear_sets.ensures i) c.args.rows.now (c.clear_witness.ensures i)

pub returns : goal.returns
returns c =
    let at = goal.at.returns c in
    let g = c.read_cleared in
    let n = g.new in
    let after = read_tables (transition_sets n.table n.marks) n.rows (witness_tables n.word n.one n.other) in
    reads-cleared (lent at.Start) (empty at.After-clear_witness) c.args.sheet.now after g.result g.ensures
