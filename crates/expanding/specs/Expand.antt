-- The lent tables before and behind one step.
use Rattle.std.specs.Prelude.{ℕ, ◌+◌, ◌/◌, ◌%◌, ◌≤◌, ◌<◌, ◌≡◌, List, length, get_or}
use Rattle.tuple_record.specs.Record.{row_cells, record_cells, record_start}
use Rattle.row_index.specs.Index.{Indexed}
use Rattle.automaton.specs.Automaton.{Automaton, Fits}
use Rattle.tuple.specs.Step.{Tuple}
use Rattle.numbering.specs.Numbering.{tuple_at, entered, TupleCells}
use Rattle.numbering.specs.Explore.{found}
use Rattle.expanding.specs.Tables.{tracker_tables, EnoughForTracker}

-- "its next on letter l is number 8t+l", of the steps before c; every other cell is zero
pub record NextsBefore (A : Automaton) (c : ℕ) (ts : List Tuple) (nexts : List ℕ) : Type 0 where
  pub next : (d : ℕ) → d < c → d / 8 < length ts → d % 8 < A.k → (get_or nexts d 0 < length ts) × (tuple_at A ts (get_or nexts d 0) ≡ entered A ts d)
  pub zero : (d : ℕ) → (d < c → d / 8 < length ts → d % 8 < A.k → ⊥) → get_or nexts d 0 ≡ 0

-- before step c the tables hold the m tuples that are found, with their ways back and the index of their rows, and zero behind
pub record Filled (A : Automaton) (room c m : ℕ) (tuples nexts head link : List ℕ) : Type 0 where
  pub fits : Fits A
  pub room_fits : EnoughForTracker room (tracker_tables tuples nexts)
  pub count : m ≡ length (found A c)
  pub room-is : m ≤ room
  pub tuples-are : TupleCells A (found A c) tuples
  pub nexts-are : NextsBefore A c (found A c) nexts
  pub index : Indexed tuples m head link

-- a step that can be taken
pub record Taken (A : Automaton) (c m : ℕ) : Type 0 where
  pub from : c / 8 < m
  pub letter : c % 8 < A.k

-- the answer of a step is the count of tuples behind it, or a number above the room where they are too many
pub record Goes (A : Automaton) (room c r : ℕ) (tuples nexts head link : List ℕ) : Type 0 where
  pub fitting : r ≤ room → Filled A room c r tuples nexts head link
  pub over : room < r → room < length (found A c)

-- what loading the row of step c asks of the tables
pub record Entering (c : ℕ) (tuples w : List ℕ) : Type 0 where
  pub small : c / 8 < 1024
  pub row : record_start (c / 8) + record_cells ≤ length tuples
  pub cells : length w ≡ row_cells
