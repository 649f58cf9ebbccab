-- The file's answer, then the walk check's on its automaton: ReadLaws. Assumes nothing.
use Rattle.std.specs.Prelude.{Ok, Result}
use Rattle.gate.specs.declared.Refusal.{Refusal}
use Prim.Native.Nat.{ℕ, ◌≤◌}
use mathlib.Core.Path.{◌≡◌, sym, ◌∙◌, ap, subst}
use native.Mathlib.Omega.{arith}
use lib.ListN.{length, replicate}
use lib.Seq.{length-take-le}
use Rattle.gate.specs.GateLaws.{passed-up}
use Rattle.automaton.specs.Automaton.{TransitionSets, transition_sets}
use Rattle.lent.proofs.LentLaws.{sets-cleared-alike}
use Rattle.lent.specs.Lent.{WitnessTables, witness_tables}
use Rattle.parser.specs.Parse.{parse}
use Rattle.parser.specs.PhaseAnswers.{FileRead}
use Rattle.automaton.specs.declared.Numbers.{Numbers}
use Rattle.parser.proofs.LettersOfLaws.{FileAccepted, read-accepted}
use Rattle.reading.proofs.ReadLaws.{asked, free-accepts, meeting-refuses, fault-refuses}
use Rattle.reading.proofs.read_cleared.Goals as goal
use Rattle.reading.proofs.read_cleared.Goals.{After-ask, After-read_file}

-- the tables, as they were lent
abbrev lent : After-read_file → WitnessTables
lent c = witness_tables c.args.word.now c.args.one.now c.args.other.now

abbrev sets : After-read_file → TransitionSets
sets c = transition_sets c.args.table.now c.args.marks.now

-- the tables behind the reading
abbrev filled : After-read_file → TransitionSets
filled c = transition_sets c.read_file.new.table c.read_file.new.marks

cells : (c : After-read_file) → 128 ≤ length c.read_file.new.table
cells c = omega (arith, c.requires.0.tables.cells, c.read_file.auto.table)

-- the answer x on the file
abbrev Read-as : After-read_file → Result Numbers Refusal → Type 0
Read-as c x = FileRead (parse c.args.sheet.now) (sets c) (filled c) c.args.rows.now c.read_file.new.rows x

read_as : (c : After-read_file) (x : Result Numbers Refusal) → c.read_file.result ≡ x → Read-as c x
read_as c x told = subst (Read-as c) told c.read_file.ensures

-- the file is read
abbrev Reads-file : After-read_file → Numbers → Type 0
Reads-file c a = FileAccepted c.args.sheet.now (sets c) (filled c) c.args.rows.now c.read_file.new.rows a

reads-file : (c : After-read_file) (a : Numbers) → c.read_file.result ≡ Ok a → Reads-file c a
reads-file c a told =
    read-accepted c.args.sheet.now (sets c) (filled c) c.args.rows.now c.read_file.new.rows a (read_as c (Ok a) told)

-- what the walk check leaves
abbrev witness : After-ask → WitnessTables
witness c = witness_tables c.ask.new.word c.ask.new.one c.ask.new.other

pub slice_bounds-ask-end-2 : goal.slice_bounds-ask-end-2
slice_bounds-ask-end-2 c =
    sym (length-take-le 128 c.read_file.new.table (cells (goal.at.slice_bounds-ask-end-2 c).After-read_file))

pub ask-requires : goal.ask-requires
ask-requires c =
    asked (reads-file (goal.at.ask-requires c).After-read_file c.in_ok-a.a c.in_ok-a.was) c.graph_of.ensures c.requires.3 c.requires.0.long

pub returns-in_err-a : goal.returns-in_err-a
returns-in_err-a c =
    let z = (goal.at.returns-in_err-a c).After-read_file in
    rw (passed-up c.from_residual.result c.in_err-a.field-0.0 c.from_residual.ensures.1)
    (fault-refuses c.args.sheet.now (sets z) (filled z) c.args.rows.now c.read_file.new.rows c.in_err-a.field-0.0 (read_as z _ c.in_err-a.was) c.requires.3)

pub returns-in-Some : goal.returns-in-Some
returns-in-Some c =
    let at = goal.at.returns-in-Some c in
    let z = at.After-read_file in
    let k = c.read_file.auto in
    meeting-refuses (reads-file z c.in_ok-a.a c.in_ok-a.was) c.graph_of.ensures c.requires.3 {after = witness at.After-ask}
    c.in-Some.ensures
    (c.clear_sets.ensures ∙ sets-cleared-alike (sets z) (filled z) k.table k.marks)
    (c.clear_bytes.ensures ∙ ap (λ (n : ℕ). replicate {A = ℕ} n 0) k.rows)

pub returns : goal.returns
returns c =
    let at = goal.at.returns c in
    free-accepts (reads-file at.After-read_file c.in_ok-a.a c.in_ok-a.was) c.graph_of.ensures c.requires.3 {after = witness at.After-ask}
    c.in_default.ensures
