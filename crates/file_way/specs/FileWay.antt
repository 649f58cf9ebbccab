-- Document 02, R-7, "The foreman wants to know how one gets to a tuple": what the call answers from a sheet file, a room and a tuple's number, and what the
-- lent tables hold then.
use Rattle.std.specs.Prelude.{ℕ, ◌≤◌, ◌<◌, ◌≡◌, List, length, Err, None, Ok, Option, Result, Some}
use Rattle.gate.specs.Gate.{refusal, cleared}
use Rattle.gate.specs.declared.Refusal.{Refusal}
use Rattle.automaton.specs.Automaton.{Automaton}
use Rattle.tuple_record.specs.Record.{row_at}
use Rattle.tuple.specs.Row.{tuple_of}
use Rattle.format.specs.Format.{Sheet}
use Rattle.format.specs.Numbers.{numbers}
use Rattle.reading.specs.Read.{Accepted}
use Rattle.tracker.specs.Build.{BuildTables, EnoughToBuild}
use Rattle.tracker.specs.declared.Tracker.{Tracker}
use Rattle.building.specs.FileBuild.{Builds}
use Rattle.ways.specs.Way.{Spelled, ShortestWord}

-- THE LENT TABLES: those of building, and the letters of the word
pub record WayTables : Type 0 where
  pub build : BuildTables
  pub letters : List ℕ

abbrev pub way_tables : BuildTables → List ℕ → WayTables
way_tables build letters = record { build = build; letters = letters }

-- QUESTION 1: what building asks, and for room R also R letters
pub record EnoughForWay (room : ℕ) (before : WayTables) : Type 0 where
  pub build : EnoughToBuild room before.build
  pub letters : room ≤ length before.letters

-- the word to tuple t of a tracker with `count` tuples: its cells spell it into the letters, and it is a shortest word of the sheet A to the tuple in the table
pub record WordTo (A : Automaton) (tuples : List ℕ) (count t : ℕ) (before after : List ℕ) (size : ℕ) : Type 0 where
  pub spelled : Spelled tuples count t before after size
  pub shortest : ShortestWord A (tuple_of (row_at tuples t)) spelled.word

-- THE WAY TO TUPLE t of the tracker of a sheet file s
pub data ShowsWay (s : List ℕ) (room t : ℕ) (before after : WayTables) (w : Result (Option ℕ) Refusal) : Type 0 where
  -- 1, asked first: nothing is touched
  short : (EnoughForWay room before → ⊥) → w ≡ Err (refusal 1 0) → after ≡ before → ShowsWay s room t before after w
  -- 2 to 11, as building refuses
  refused : EnoughForWay room before → (r : Refusal) → Builds s room before.build after.build (Err r) → w ≡ Err r
      → after.letters ≡ cleared before.letters → ShowsWay s room t before after w
  -- the tracker has no such tuple
  none : EnoughForWay room before → (x : Tracker) → Builds s room before.build after.build (Ok x) → x.tuples ≤ t → after.letters ≡ cleared before.letters
      → w ≡ Ok None → ShowsWay s room t before after w
  -- or it has one, and a word leads to it
  shown : EnoughForWay room before → (x : Tracker) → Builds s room before.build after.build (Ok x) → t < x.tuples → (σ : Sheet) → Accepted s σ
      → (size : ℕ) → WordTo (numbers σ) after.build.tracker.tuples x.tuples t before.letters after.letters size → w ≡ Ok (Some size)
      → ShowsWay s room t before after w
