-- The lengths are asked before a table is touched; then the file is read, and the name looked up among its names. Assumes nothing.
use Rattle.std.specs.Prelude.{Ok}
use mathlib.Core.Path.{refl}
use mathlib.Core.List.{List}
use Prim.Native.Nat.{ℕ}
use native.Mathlib.Omega.{arith}
use lib.ListN.{replicate}
use Rattle.gate.specs.GateLaws.{passed-up}
use Rattle.automaton.specs.Automaton.{transition_sets}
use Rattle.lent.specs.Lent.{witness_tables, EnoughForWitness}
use Rattle.reading.specs.Read.{ReadTables, read_tables, ReadsNamed}
use Rattle.letter_search.specs.Find.{Finds}
use Rattle.reading.proofs.ReadLaws.{few-letters}
use Rattle.letter_search.specs.FindLaws.{find-asks}
use Rattle.letter_search.proofs.find.Goals as goal
use Rattle.letter_search.proofs.find.Goals.{Else-not-long_enough, In_ok-a}

-- question 1 is passed
enough : (c : Else-not-long_enough) → EnoughForWitness (witness_tables c.args.word.now c.args.one.now c.args.other.now)
enough c = (c.long_enough.ensures.0 c.if-not-long_enough.false).long

-- the file is read
abbrev before : (rows word one other : List ℕ) → ReadTables
before rows word one other = read_tables (transition_sets (replicate 128 0) (replicate 128 0)) rows (witness_tables word one other)

accepted : (c : In_ok-a) →
    let a = c.args in
    let w = c.read_long.new in
    ReadsNamed a.sheet.now (before (replicate 224 0) a.word.now a.one.now a.other.now)
    (read_tables (transition_sets w.table w.marks) w.rows (witness_tables w.word w.one w.other)) (Ok c.in_ok-a.a)
accepted c = rw c.in_ok-a.was at c.read_long.ensures

pub shape_of-word-then-not-long_enough : goal.shape_of-word-then-not-long_enough
shape_of-word-then-not-long_enough c = refl

pub shape_of-one-then-not-long_enough : goal.shape_of-one-then-not-long_enough
shape_of-one-then-not-long_enough c = refl

pub shape_of-other-then-not-long_enough : goal.shape_of-other-then-not-long_enough
shape_of-other-then-not-long_enough c = refl

pub returns-then-not-long_enough : goal.returns-then-not-long_enough
returns-then-not-long_enough c =
    Finds.short (λ l. c.long_enough.ensures.1 c.if-not-long_enough.true (record { tables = record { cells = omega arith; marks = omega arith }; long = l })) refl refl

pub read_long-requires : goal.read_long-requires
read_long-requires c =
    (record { tables = record { cells = omega arith; marks = omega arith }; long = enough (goal.at.read_long-requires c).Else-not-long_enough }, omega arith)

pub letter_named-requires : goal.letter_named-requires
letter_named-requires c =
    let k = few-letters (accepted (goal.at.letter_named-requires c).In_ok-a) in
    (k, omega (arith, k, c.read_long.auto.rows))

pub shape_of-word-in_err-a : goal.shape_of-word-in_err-a
shape_of-word-in_err-a c = c.read_long.auto.word

pub shape_of-one-in_err-a : goal.shape_of-one-in_err-a
shape_of-one-in_err-a c = c.read_long.auto.one

pub shape_of-other-in_err-a : goal.shape_of-other-in_err-a
shape_of-other-in_err-a c = c.read_long.auto.other

pub returns-in_err-a : goal.returns-in_err-a
returns-in_err-a c =
    let refused = rw c.in_err-a.was at c.read_long.ensures in
    Finds.refused (enough (goal.at.returns-in_err-a c).Else-not-long_enough) c.in_err-a.field-0.0 refused.0
    (passed-up c.from_residual.result c.in_err-a.field-0.0 c.from_residual.ensures.1)

pub shape_of-word : goal.shape_of-word
shape_of-word c = c.read_long.auto.word

pub shape_of-one : goal.shape_of-one
shape_of-one c = c.read_long.auto.one

pub shape_of-other : goal.shape_of-other
shape_of-other c = c.read_long.auto.other

pub returns : goal.returns
returns c =
    find-asks (accepted (goal.at.returns c).In_ok-a) (enough (goal.at.returns c).Else-not-long_enough) c.letter_named.ensures.0
