-- `file_writer::write` meets its contract: question 1 is asked first; what reading answers is handed on, and then the last question's answer. Assumes nothing.
use Rattle.std.specs.Prelude.{Ok}
use mathlib.Core.Path.{refl}
use native.Mathlib.Omega.{arith}
use lib.ListN.{replicate}
use Rattle.automaton.specs.Automaton.{transition_sets}
use Rattle.lent.specs.Lent.{witness_tables, EnoughForWitness}
use Rattle.reading.specs.Read.{read_tables, ReadsNamed}
use Rattle.file_writer.specs.FileWrite.{Writes}
use Rattle.file_writer.specs.FileWriteLaws.{write-asks, write-finishes}
use Rattle.file_writer.proofs.write.Goals as goal
use Rattle.file_writer.proofs.write.Goals.{Else-not-long_enough, In-Ok}

-- question 1 is passed
enough : (c : Else-not-long_enough) → EnoughForWitness (witness_tables c.args.word.now c.args.one.now c.args.other.now)
enough c = (c.long_enough.ensures.0 c.if-not-long_enough.false).long

-- the file is read
accepted : (c : In-Ok) →
    let a = c.args in
    let w = c.read_long.new in
    ReadsNamed a.sheet.now
    (read_tables (transition_sets (replicate 128 0) (replicate 128 0)) (replicate 224 0) (witness_tables a.word.now a.one.now a.other.now))
    (read_tables (transition_sets w.table w.marks) w.rows (witness_tables w.word w.one w.other)) (Ok c.in-Ok.a)
accepted c = rw c.in-Ok.is at c.read_long.ensures

pub returns-then-not-long_enough : goal.returns-then-not-long_enough
returns-then-not-long_enough c =
    Writes.short (λ l. c.long_enough.ensures.1 c.if-not-long_enough.true (record { tables = record { cells = omega arith; marks = omega arith }; long = l })) refl refl

pub read_long-requires : goal.read_long-requires
read_long-requires c =
    (record { tables = record { cells = omega arith; marks = omega arith }; long = enough (goal.at.read_long-requires c).Else-not-long_enough }, omega arith)

pub finish-requires : goal.finish-requires
finish-requires c = (write-asks (accepted (goal.at.finish-requires c).In-Ok), omega (arith, c.read_long.auto.rows))

pub returns-in-Err : goal.returns-in-Err
returns-in-Err c =
    let refused = rw c.in-Err.is at c.read_long.ensures in
    Writes.refused (enough (goal.at.returns-in-Err c).Else-not-long_enough) c.in-Err.r refused.0 refl c.clear_bytes.ensures

pub returns-in-Ok : goal.returns-in-Ok
returns-in-Ok c =
    write-finishes (accepted (goal.at.returns-in-Ok c).In-Ok) (enough (goal.at.returns-in-Ok c).Else-not-long_enough) c.finish.ensures
