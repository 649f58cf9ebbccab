-- What the questions behind 1 answer on a sheet file, and what the tables hold then.
use Rattle.std.specs.Prelude.{ℕ, ◌≡◌, List, Err, Ok, Result}
use Rattle.gate.specs.Gate.{refusal, cleared}
use Rattle.gate.specs.declared.Refusal.{Refusal}
use Rattle.automaton.specs.declared.Numbers.{Numbers}
use Rattle.automaton.specs.Automaton.{TransitionSets, graph_of, AreNumbers}
use Rattle.automaton.specs.Endless.{MeetingFree}
use Rattle.lent.specs.Lent.{WitnessTables, cleared_witness, cleared_sets, lent_sets, Meets}
use Rattle.format.specs.Format.{Sheet, FileIs, Faulty}
use Rattle.format.specs.Numbers.{numbers}
use Rattle.parser.specs.LettersOf.{LettersIn, BehindNames}

-- QUESTIONS 2 TO 10 on a sheet file: s is the file of σ, which is free of meeting walks
pub record Accepted (s : List ℕ) (σ : Sheet) : Type 0 where
  pub file : FileIs s σ
  pub free : MeetingFree (graph_of (numbers σ))

-- or the first that is answered no refuses with r. The tables are the witness.
pub data Refuses (s : List ℕ) (before after : WitnessTables) (r : Refusal) : Type 0 where
  faulty : (number line : ℕ) → Faulty s number line → r ≡ refusal number line → after ≡ cleared_witness before → Refuses s before after r
  meeting : (σ : Sheet) → FileIs s σ → Meets (graph_of (numbers σ)) before after r → Refuses s before after r

-- ALL THAT IS READ of a sheet, for the calls that go on with it
pub record ReadTables : Type 0 where
  -- the lent tables of successor sets and marks
  pub sets : TransitionSets
  -- the composed names, and the superseding letters
  pub rows : List ℕ
  -- the lent witness
  pub witness : WitnessTables

abbrev pub read_tables : TransitionSets → List ℕ → WitnessTables → ReadTables
read_tables sets rows witness = record { sets = sets; rows = rows; witness = witness }

-- the lent ones cleared, the names as they were
abbrev pub lent_cleared : ReadTables → ReadTables
lent_cleared before = read_tables (cleared_sets before.sets) before.rows (cleared_witness before.witness)

-- an accepted sheet file, its numbers a and what the tables hold then: "On success every cell of these tables without a meaning is zero"
pub record SheetRead (s : List ℕ) (before after : ReadTables) (a : Numbers) : Type 0 where
  pub sheet : Sheet
  pub accepted : Accepted s sheet
  pub are : AreNumbers (numbers sheet) a
  pub sets : after.sets ≡ lent_sets (numbers sheet) before.sets
  pub witness : after.witness ≡ cleared_witness before.witness
  pub names : LettersIn sheet a.k after.rows
  pub behind : BehindNames sheet a.k before.rows after.rows

-- the answer of questions 2 to 10, in tables that are long enough, with the names
abbrev pub ReadsNamed : List ℕ → ReadTables → ReadTables → Result Numbers Refusal → Type 0
ReadsNamed s before after (Err r) =
    Refuses s before.witness after.witness r × (after.sets ≡ cleared_sets before.sets) × (after.rows ≡ cleared before.rows)
ReadsNamed s before after (Ok a) = SheetRead s before after a
