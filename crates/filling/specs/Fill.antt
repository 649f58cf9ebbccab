-- The filling of the lent tables: what it asks, what it begins with, and what it leaves.
use Rattle.std.specs.Prelude.{ℕ, ◌≡◌, List, set, replicate, Option, Some, None}
use Rattle.gate.specs.Gate.{cleared}
use Rattle.tuple_record.specs.declared.WayBack.{WayBack}
use Rattle.tuple_record.specs.Record.{set_cells, row_cells}
use Rattle.automaton.specs.Automaton.{Automaton, Fits}
use Rattle.colour.specs.Colour.{neutral}
use Rattle.numbering.specs.Numbering.{MoreThan}
use Rattle.expanding.specs.Tables.{TrackerTables, EnoughForTracker}
use Rattle.filling.specs.TrackerTables.{Fitted}

-- the cells of the first tuple's row: "the initial states, then empty sets, colour 2n+1"
unfoldable pub first_cells : ℕ → ℕ → List ℕ
first_cells n initial = set (set (replicate row_cells 0) 0 initial) set_cells (neutral n)

-- and its way back: "its own number and 0 for the first"
abbrev pub first_way : WayBack
first_way = record { from = 0; letter = 0 }

-- the index before there is a row
pub record NoRows (head link : List ℕ) : Type 0 where
  pub heads : head ≡ replicate 1024 0
  pub links : link ≡ replicate 1024 0

-- what filling asks: the numbers fit, and the tables are long enough and zero
pub record Filling (A : Automaton) (room : ℕ) (tracker : TrackerTables) : Type 0 where
  pub fits : Fits A
  pub room_fits : EnoughForTracker room tracker
  pub tuples : tracker.tuples ≡ cleared tracker.tuples
  pub nexts : tracker.nexts ≡ cleared tracker.nexts

-- QUESTION 11: the tables hold the tracker with its m tuples, or more are reachable than there is room for
abbrev pub Fills : Automaton → ℕ → TrackerTables → TrackerTables → Option ℕ → Type 0
Fills A room before after (Some m) = Fitted A room before after m
Fills A room before after None = MoreThan A room
