-- The lengths are asked before a table is touched; then the other questions. Assumes nothing.
use mathlib.Core.Path.{refl}
use mathlib.Core.Logic.◌⊎◌.{inl}
use native.Mathlib.Omega.{arith}
use lib.ListN.{replicate}
use Rattle.automaton.specs.Automaton.{TransitionSets, transition_sets}
use Rattle.lent.specs.Lent.{WitnessTables, witness_tables, EnoughForSheet}
use Rattle.reading.specs.Read.{read_tables}
use Rattle.sheet.specs.ReadLaws.{reads-asked}
use Rattle.sheet.proofs.read_sheet.Goals as goal
use Rattle.sheet.proofs.read_sheet.Goals.{Else-not-long_enough, Start}

abbrev sets : Start → TransitionSets
sets s = transition_sets s.args.table.now s.args.marks.now

abbrev lent : Start → WitnessTables
lent s = witness_tables s.args.word.now s.args.one.now s.args.other.now

enough : (c : Else-not-long_enough) →
    let a = c.args in
    EnoughForSheet (transition_sets a.table.now a.marks.now) (witness_tables a.word.now a.one.now a.other.now)
enough c = c.long_enough.ensures.0 c.if-not-long_enough.false

pub returns-then-not-long_enough : goal.returns-then-not-long_enough
returns-then-not-long_enough c = inl (c.long_enough.ensures.1 c.if-not-long_enough.true, refl, refl)

pub read_long-requires : goal.read_long-requires
read_long-requires c = (enough (goal.at.read_long-requires c).Else-not-long_enough, omega arith)

pub returns : goal.returns
returns c =
    let at = goal.at.returns c in
    let g = c.read_long in
    let n = g.new in
    let after = read_tables (transition_sets n.table n.marks) n.rows (witness_tables n.word n.one n.other) in
    reads-asked c.args.sheet.now (read_tables (sets at.Start) (replicate 224 0) (lent at.Start)) after g.result (enough at.Else-not-long_enough)
    g.ensures
