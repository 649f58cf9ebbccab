-- What building a tracker answers, and what the lent tables hold then.
use Rattle.std.specs.Prelude.{ℕ, ◌≡◌, Err, Ok, Result}
use Rattle.tracker.specs.declared.Tracker.{Tracker}
use Rattle.gate.specs.Gate.{refusal}
use Rattle.gate.specs.declared.Refusal.{Refusal}
use Rattle.automaton.specs.Automaton.{Automaton, TransitionSets, sets_of_automaton, graph_of, Fits, AreNumbers}
use Rattle.automaton.specs.Endless.{MeetingFree}
use Rattle.lent.specs.Lent.{WitnessTables, EnoughForSheet, cleared_witness, cleared_sets, NumbersRefuse}
use Rattle.numbering.specs.Numbering.{MoreThan}
use Rattle.filling.specs.TrackerTables.{TrackerTables, cleared_tracker, EnoughForTracker, Fitted}

-- THE LENT TABLES of building from numbers, and those of building from a sheet file
pub record BuildNumbersTables : Type 0 where
  -- the word and two walks of a refusal 10
  pub witness : WitnessTables
  -- the tuples and nexts
  pub tracker : TrackerTables

abbrev pub build_numbers_tables : WitnessTables → TrackerTables → BuildNumbersTables
build_numbers_tables witness tracker = record { witness = witness; tracker = tracker }

pub record BuildTables : Type 0 where
  -- the successor sets, and the marks
  pub sets : TransitionSets
  pub witness : WitnessTables
  pub tracker : TrackerTables

abbrev pub build_tables : TransitionSets → WitnessTables → TrackerTables → BuildTables
build_tables sets witness tracker = record { sets = sets; witness = witness; tracker = tracker }

-- each table all zero, as long as before
abbrev pub cleared_build_numbers : BuildNumbersTables → BuildNumbersTables
cleared_build_numbers before = build_numbers_tables (cleared_witness before.witness) (cleared_tracker before.tracker)

abbrev pub cleared_build : BuildTables → BuildTables
cleared_build before = build_tables (cleared_sets before.sets) (cleared_witness before.witness) (cleared_tracker before.tracker)

-- QUESTION 1: "Are the lent tables long enough (128 successor sets; a witness of 136 letters and two walks of 137 states; for room R, .. tuple
-- numbers and 8·R next numbers ..), and is R 1 to 1,024?", with R-7's 19 numbers a tuple and R-9's "128 sets of marked successors"
pub record EnoughToBuild (room : ℕ) (before : BuildTables) : Type 0 where
  pub lengths : EnoughForSheet before.sets before.witness
  pub tracker : EnoughForTracker room before.tracker

-- where the sheet comes as the numbers A, with its successor sets and its marks
abbrev pub EnoughToBuildNumbers : Automaton → ℕ → BuildNumbersTables → Type 0
EnoughToBuildNumbers A room before = EnoughToBuild room (build_tables (sets_of_automaton A) before.witness before.tracker)

-- QUESTION 11 on the automaton A: the tracker, or 11 with both of its tables all zero
abbrev pub Tracks : Automaton → ℕ → TrackerTables → TrackerTables → Result Tracker Refusal → Type 0
Tracks A room before after (Err r) = MoreThan A room × (r ≡ refusal 11 0) × (after ≡ cleared_tracker before)
Tracks A room before after (Ok x) = AreNumbers A x.numbers × Fitted A room before after x.tuples

-- BUILDING FROM NUMBERS. The sheet as numbers is A.
pub data BuildsNumbers (A : Automaton) (room : ℕ) (before after : BuildNumbersTables) (b : Result Tracker Refusal) : Type 0 where
  -- 1, asked first: nothing is touched
  short : (EnoughToBuildNumbers A room before → ⊥) → b ≡ Err (refusal 1 0) → after ≡ before → BuildsNumbers A room before after b
  -- 4, 7, 8 and 10
  refused : EnoughToBuildNumbers A room before → (r : Refusal) → NumbersRefuse A before.witness after.witness r → b ≡ Err r
      → after.tracker ≡ cleared_tracker before.tracker → BuildsNumbers A room before after b
  -- 11, or the tracker
  asked : EnoughToBuildNumbers A room before → Fits A → MeetingFree (graph_of A) → after.witness ≡ cleared_witness before.witness
      → Tracks A room before.tracker after.tracker b → BuildsNumbers A room before after b
