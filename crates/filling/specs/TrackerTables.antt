-- Document 01: the lent tables of a tracker, and what they hold when it is built.
use Rattle.std.specs.Prelude.{ℕ, ◌≤◌, ◌≡◌, List, length}
use Rattle.gate.specs.Gate.{cleared}
use Rattle.automaton.specs.Automaton.{Automaton}
use Rattle.tuple.specs.Step.{Tuple}
use Rattle.numbering.specs.Numbering.{Numbering, TupleCells, NextCells}
pub use Rattle.expanding.specs.Tables.{TrackerTables, tracker_tables, EnoughForTracker}

-- both tables cleared
abbrev pub cleared_tracker : TrackerTables → TrackerTables
cleared_tracker before = record { tuples = cleared before.tuples; nexts = cleared before.nexts }

-- the tracker of A in lent tables: every cell is given, and those without a meaning are zero
pub record Holds (A : Automaton) (ts : List Tuple) (before after : TrackerTables) : Type 0 where
  pub numbering : Numbering A ts
  pub tuples : TupleCells A ts after.tuples
  pub nexts : NextCells A ts after.nexts
  pub same-tuples : length after.tuples ≡ length before.tuples
  pub same-nexts : length after.nexts ≡ length before.nexts

-- a tracker with all its tuples, for which there is room
pub record Fitted (A : Automaton) (room : ℕ) (before after : TrackerTables) (count : ℕ) : Type 0 where
  pub list : List Tuple
  pub count-is : count ≡ length list
  pub room-is : count ≤ room
  pub holds : Holds A list before after
