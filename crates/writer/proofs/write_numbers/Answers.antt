-- `writer::write_numbers` meets its contract: question 1 is asked first; what the questions answer is handed on, and then the last one's answer. Assumes nothing.
use Rattle.std.specs.Prelude.{Ok}
use mathlib.Core.Path.{refl}
use native.Mathlib.Omega.{arith}
use Rattle.automaton.specs.Automaton.{automaton, sets_of_automaton}
use Rattle.lent.specs.Lent.{witness_tables, EnoughForSheet}
use Rattle.writer.specs.Write.{write_tables, WritesNumbers}
use Rattle.named_numbers.specs.Ask.{Asks}
use Rattle.writer.specs.WriteLaws.{writable, numbers-finishes}
use Rattle.writer.proofs.write_numbers.Goals as goal
use Rattle.writer.proofs.write_numbers.Goals.{Else-not-long_enough, In-Ok}

-- question 1 is passed
enough : (c : Else-not-long_enough) →
    let a = c.args in
    EnoughForSheet (sets_of_automaton (automaton a.a a.table.now a.marks.now)) (witness_tables a.word.now a.one.now a.other.now)
enough c = c.long_enough.ensures.0 c.if-not-long_enough.false

-- the questions are asked
accepted : (c : In-Ok) →
    let a = c.args in
    let w = c.ask.new in
    Asks (automaton a.a a.table.now a.marks.now) a.names.now w.rows (witness_tables a.word.now a.one.now a.other.now) (witness_tables w.word w.one w.other) (Ok tt)
accepted c = rw c.in-Ok.is at c.ask.ensures

pub shape_of-word-then-not-long_enough : goal.shape_of-word-then-not-long_enough
shape_of-word-then-not-long_enough c = refl

pub shape_of-one-then-not-long_enough : goal.shape_of-one-then-not-long_enough
shape_of-one-then-not-long_enough c = refl

pub shape_of-other-then-not-long_enough : goal.shape_of-other-then-not-long_enough
shape_of-other-then-not-long_enough c = refl

pub returns-then-not-long_enough : goal.returns-then-not-long_enough
returns-then-not-long_enough c =
    WritesNumbers.short (c.long_enough.ensures.1 c.if-not-long_enough.true) refl refl

pub ask-requires : goal.ask-requires
ask-requires c = (enough (goal.at.ask-requires c).Else-not-long_enough, omega arith)

pub finish-requires : goal.finish-requires
finish-requires c =
    (writable (accepted (goal.at.finish-requires c).In-Ok).1.fits (enough (goal.at.finish-requires c).Else-not-long_enough).tables, omega (arith, c.ask.auto.rows))

pub shape_of-word-in-Err : goal.shape_of-word-in-Err
shape_of-word-in-Err c = c.ask.auto.word

pub shape_of-one-in-Err : goal.shape_of-one-in-Err
shape_of-one-in-Err c = c.ask.auto.one

pub shape_of-other-in-Err : goal.shape_of-other-in-Err
shape_of-other-in-Err c = c.ask.auto.other

pub shape_of-out-in-Err : goal.shape_of-out-in-Err
shape_of-out-in-Err c = c.clear_bytes.auto.bytes

pub returns-in-Err : goal.returns-in-Err
returns-in-Err c =
    WritesNumbers.refused (enough (goal.at.returns-in-Err c).Else-not-long_enough) c.in-Err.r (rw c.in-Err.is at c.ask.ensures) refl
    c.clear_bytes.ensures

pub shape_of-word-in-Ok : goal.shape_of-word-in-Ok
shape_of-word-in-Ok c = c.ask.auto.word

pub shape_of-one-in-Ok : goal.shape_of-one-in-Ok
shape_of-one-in-Ok c = c.ask.auto.one

pub shape_of-other-in-Ok : goal.shape_of-other-in-Ok
shape_of-other-in-Ok c = c.ask.auto.other

pub shape_of-out-in-Ok : goal.shape_of-out-in-Ok
shape_of-out-in-Ok c = c.finish.auto.out

pub returns-in-Ok : goal.returns-in-Ok
returns-in-Ok c =
    let a = c.args in
    let w = c.ask.new in
    numbers-finishes (automaton a.a a.table.now a.marks.now) {after = write_tables (witness_tables w.word w.one w.other) c.finish.new.out}
    (enough (goal.at.returns-in-Ok c).Else-not-long_enough) (accepted (goal.at.returns-in-Ok c).In-Ok) c.finish.ensures
