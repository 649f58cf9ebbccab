-- What building a tracker from a sheet file answers, and what the lent tables hold then.
use Rattle.std.specs.Prelude.{ℕ, ◌≡◌, List, Err, Ok, Result}
use Rattle.tracker.specs.declared.Tracker.{Tracker}
use Rattle.gate.specs.Gate.{refusal, cleared}
use Rattle.automaton.specs.Automaton.{Automaton, TransitionSets}
use Rattle.gate.specs.declared.Refusal.{Refusal}
use Rattle.lent.specs.Lent.{cleared_witness, cleared_sets, lent_sets}
use Rattle.format.specs.Format.{Sheet}
use Rattle.format.specs.Numbers.{numbers}
use Rattle.parser.specs.LettersOf.{LettersAlone}
use Rattle.reading.specs.Read.{Accepted, Refuses}
use Rattle.filling.specs.TrackerTables.{cleared_tracker}
use Rattle.tracker.specs.Build.{BuildTables, EnoughToBuild, Tracks}

-- the lent tables of successor sets and marks behind question 11: all zero with a refusal, and the sheet's with its tracker
abbrev pub SetsAre : Automaton → TransitionSets → TransitionSets → Result Tracker Refusal → Type 0
SetsAre A before after (Err r) = after ≡ cleared_sets before
SetsAre A before after (Ok x) = after ≡ lent_sets A before

-- BUILDING FROM A SHEET FILE s
pub data Builds (s : List ℕ) (room : ℕ) (before after : BuildTables) (b : Result Tracker Refusal) : Type 0 where
  -- 1, asked first: nothing is touched
  short : (EnoughToBuild room before → ⊥) → b ≡ Err (refusal 1 0) → after ≡ before → Builds s room before after b
  -- 2 to 10
  refused : EnoughToBuild room before → (r : Refusal) → Refuses s before.witness after.witness r → b ≡ Err r
      → after.sets ≡ cleared_sets before.sets → after.tracker ≡ cleared_tracker before.tracker → Builds s room before after b
  -- 11, or the tracker
  asked : EnoughToBuild room before → (σ : Sheet) → Accepted s σ → after.witness ≡ cleared_witness before.witness
      → Tracks (numbers σ) room before.tracker after.tracker b → SetsAre (numbers σ) before.sets after.sets b
      → Builds s room before after b

-- the rows of the letters behind building: all zero with a refusal, else the sheet's letters, and everywhere else zeros
abbrev pub RowsBuilt : List ℕ → List ℕ → List ℕ → Result Tracker Refusal → Type 0
RowsBuilt s old rows (Err r) = rows ≡ cleared old
RowsBuilt s old rows (Ok x) = LettersAlone s old rows x.numbers

-- THE SAME WITH THE NAMES, for the calls that go on with a tracker once it is built
abbrev pub BuildsNamed : List ℕ → ℕ → BuildTables → BuildTables → List ℕ → List ℕ → Result Tracker Refusal → Type 0
BuildsNamed s room before after old rows b = Builds s room before after b × RowsBuilt s old rows b
