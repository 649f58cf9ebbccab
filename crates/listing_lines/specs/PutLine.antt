-- What a line of a listing asks of its tables and of the buffer.
use Rattle.std.specs.Prelude.{ℕ, ◌+◌, ◌*◌, ◌≤◌, List, length, get_or}
use Rattle.filling.specs.TrackerTables.{tracker_tables, EnoughForTracker}

-- the cells of a table from `from` on, as a sequence
abbrev pub cells_from : List ℕ → ℕ → ℕ → ℕ
cells_from table from i = get_or table (from + i) 0

-- count cells from `from` on, and room for them, w wide, in the bytes from `at` on
pub record ColumnsThere (out : List ℕ) (at w : ℕ) (table : List ℕ) (from count : ℕ) : Type 0 where
  pub wide : w ≤ 6
  pub cells : from + count ≤ length table
  pub bytes : at + count * w ≤ length out

-- the bytes of a tuple's line
abbrev pub line_bytes : ℕ → ℕ → ℕ
line_bytes n k = 10 + (6 * n + 5 * k)

-- at most as many states, letters and tuples as there may be
pub record ListingLimits (n k count : ℕ) : Type 0 where
  pub states : n ≤ 16
  pub letters : k ≤ 8
  pub most : count ≤ 1024

-- and tables that are long enough for the tuples
pub record Sized (n k count : ℕ) (tuples nexts : List ℕ) : Type 0 where
  pub sizes : ListingLimits n k count
  pub room : EnoughForTracker count (tracker_tables tuples nexts)
