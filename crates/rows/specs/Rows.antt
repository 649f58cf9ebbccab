-- The number of a row in a table: it is found, or the row is added behind the others, with its way back. One that is found keeps the way it has.
use Rattle.std.specs.Prelude.{ℕ, ◌≤◌, ◌<◌, ◌≡◌, List}
use Rattle.tuple_record.specs.declared.WayBack.{WayBack}
use Rattle.row_index.specs.Index.{Indexed, RowFound, Added}

-- the number of a row: the table is kept with its index where the row is found or there is no room for it, and else has it behind its m rows
pub record FoundOrAdded (before after : List ℕ) (m room : ℕ) (row : List ℕ) (way : WayBack) (head link : List ℕ) (r : ℕ) : Type 0 where
  pub found : RowFound before m row r
  pub kept : r < m → (after ≡ before) × Indexed after m head link
  pub added : m ≤ r → m < room → Added before after m row way head link
  pub full : m ≤ r → room ≤ m → (after ≡ before) × Indexed after m head link
