-- The output is the text that is written, or its refusal in the cleared buffer. Assumes nothing.
use Rattle.std.specs.Prelude.{Result, ℕ}
use Rattle.gate.specs.declared.Refusal.{Refusal}
use mathlib.Core.Path.{refl, subst}
use lib.ListN.{replicate}
use native.Mathlib.Omega.{arith}
use Rattle.lent.specs.Lent.{WitnessTables, witness_tables, EnoughForWitness}
use Rattle.writer.specs.Write.{write_tables}
use Rattle.file_writer.specs.FileWrite.{Writes}
use Rattle.report.specs.Output.{Prints}
use Rattle.rewrite_output.specs.RewriteLaws.{bytes-printed, refused-short, refused-printed}
use borrow.Author.Rules.{rules}
use Rattle.rewrite_output.proofs.rewrite.Goals as goal
use Rattle.rewrite_output.proofs.rewrite.Goals.{After-write}

-- the witness that writing is lent
abbrev lent : WitnessTables
lent = witness_tables (replicate 136 0) (replicate 137 0) (replicate 137 0)

long : EnoughForWitness lent
long = record { word = omega arith; one = omega arith; other = omega arith }

-- the sheet is written
abbrev Wrote-as : After-write → Result ℕ Refusal → Type 0
Wrote-as c x =
    let a = c.args in
    let w = c.write.new in
    Writes a.input.now (write_tables lent a.out.now) (write_tables (witness_tables w.word w.one w.other) w.out) x

pub returns-then-out-lt-OUTPUT-clause-prints : goal.returns-then-out-lt-OUTPUT-clause-prints
returns-then-out-lt-OUTPUT-clause-prints c = Prints.short (omega arith) refl refl

pub put_refusal_text-requires : goal.put_refusal_text-requires
put_refusal_text-requires c =
    let room = c.if-out-lt-OUTPUT.false in
    record { letters = refused-short (subst (Wrote-as (goal.at.put_refusal_text-requires c).After-write) c.in-Err.is c.write.ensures) long room; long = search rules; room = search rules }

pub returns-in-Ok-clause-prints : goal.returns-in-Ok-clause-prints
returns-in-Ok-clause-prints c =
    let room = c.if-out-lt-OUTPUT.false in
    bytes-printed (subst (Wrote-as (goal.at.returns-in-Ok-clause-prints c).After-write) c.in-Ok.is c.write.ensures) room

pub returns-in-Err-clause-prints : goal.returns-in-Err-clause-prints
returns-in-Err-clause-prints c =
    let room = c.if-out-lt-OUTPUT.false in
    refused-printed (subst (Wrote-as (goal.at.returns-in-Err-clause-prints c).After-write) c.in-Err.is c.write.ensures) long room c.put_refusal_text.ensures
