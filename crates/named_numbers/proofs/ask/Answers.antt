-- `named_numbers::ask` meets its contract: what reading the names' file answers is handed on, and then what the questions on the numbers answer. Assumes nothing.
use Rattle.gate.specs.GateLaws.{passed-up}
use Rattle.std.specs.Prelude.{Ok}
use mathlib.Core.Path.{refl}
use lib.ListN.{replicate}
use Rattle.automaton.specs.Automaton.{automaton, transition_sets}
use Rattle.lent.specs.Lent.{witness_tables}
use Rattle.reading.specs.Read.{read_tables, ReadsNamed}
use Rattle.named_numbers.specs.Ask.{NamedRefuse}
use Rattle.named_numbers.specs.AskLaws.{ask-letters, ask-numbers}
use Rattle.named_numbers.proofs.ask.Goals as goal
use Rattle.named_numbers.proofs.ask.Goals.{In_ok-b}

-- the names' file is read
accepted : (c : In_ok-b) →
    let a = c.args in
    let w = c.read_long.new in
    ReadsNamed a.names.now
    (read_tables (transition_sets (replicate 128 0) (replicate 128 0)) a.rows.now (witness_tables a.word.now a.one.now a.other.now))
    (read_tables (transition_sets w.table w.marks) w.rows (witness_tables w.word w.one w.other)) (Ok c.in_ok-b.b)
accepted c = rw c.in_ok-b.was at c.read_long.ensures

pub returns-then-b-a : goal.returns-then-b-a
returns-then-b-a c =
    ask-letters (automaton c.args.a c.args.table.now c.args.marks.now) (accepted (goal.at.returns-then-b-a c).In_ok-b) c.if-b-a.true refl

pub returns-in_err-b : goal.returns-in_err-b
returns-in_err-b c =
    let refused = rw c.in_err-b.was at c.read_long.ensures in
    rw (passed-up c.from_residual.result c.in_err-b.field-0.0 c.from_residual.ensures.1) (NamedRefuse.by_names refused.0)

pub returns : goal.returns
returns c =
    let a = c.args in
    let w = c.ask_numbers.new in
    ask-numbers (automaton a.a a.table.now a.marks.now) (accepted (goal.at.returns c).In_ok-b) c.if-b-a.false
    (witness_tables w.word w.one w.other) c.ask_numbers.result c.ask_numbers.ensures
