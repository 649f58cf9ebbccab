-- Document 01: the lent tables of a tracker, and the room in them.
use Rattle.std.specs.Prelude.{ℕ, ◌*◌, ◌≤◌, List, length}
use Rattle.tuple_record.specs.Record.{record_start}

-- the lent tuple table and next table
pub record TrackerTables : Type 0 where
  pub tuples : List ℕ
  pub nexts : List ℕ

abbrev pub tracker_tables : List ℕ → List ℕ → TrackerTables
tracker_tables tuples nexts = record { tuples = tuples; nexts = nexts }

-- "for room R, .. tuple numbers and 8·R next numbers .. and is R 1 to 1,024?", with R-7's 19 numbers a tuple
pub record EnoughForTracker (room : ℕ) (tracker : TrackerTables) : Type 0 where
  pub some : 1 ≤ room
  pub most : room ≤ 1024
  pub tuples : record_start room ≤ length tracker.tuples
  pub nexts : 8 * room ≤ length tracker.nexts
