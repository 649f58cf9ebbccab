-- Document 02, R-7: the numbers of a tuple in a lent table. "The tuple record gains, behind the colour, the tuple and then the letter it was first found
-- from"; "lent tuple tables have 19 numbers a tuple". Tuple t has numbers 19t to 19t+18: sets 0 to 15, the colour, and the way back. No other page knows the widths,
-- or which cell holds what.
use Rattle.std.specs.Prelude.{ℕ, ◌+◌, ◌*◌, ◌≤◌, ◌≡◌, List, [], ◌∷◌, ◌++◌, length, get_or, take, drop}
use Rattle.std.proofs.lemmas.List.Edits.{sets}
use Rattle.tuple_record.specs.declared.WayBack.{WayBack}

-- the cells of sets; the next holds the colour
abbrev pub set_cells : ℕ
set_cells = 16

-- a row: the sets and the colour, which is what is compared
abbrev pub row_cells : ℕ
row_cells = 17

-- behind the row: the tuple, and the letter, that it was first found from
abbrev pub from_cell : ℕ
from_cell = 17

abbrev pub letter_cell : ℕ
letter_cell = 18

-- the whole record
abbrev pub record_cells : ℕ
record_cells = 19

-- the first cell of tuple t
abbrev pub record_start : ℕ → ℕ
record_start t = record_cells * t

-- its row
abbrev pub row_at : List ℕ → ℕ → List ℕ
row_at table t = take row_cells (drop (record_start t) table)

-- its set i, its colour, and the tuple and the letter that it was first found from
abbrev pub set_in : List ℕ → ℕ → ℕ → ℕ
set_in table t i = get_or table (record_start t + i) 0

abbrev pub colour_in : List ℕ → ℕ → ℕ
colour_in table t = get_or table (record_start t + set_cells) 0

abbrev pub from_in : List ℕ → ℕ → ℕ
from_in table t = get_or table (record_start t + from_cell) 0

abbrev pub letter_in : List ℕ → ℕ → ℕ
letter_in table t = get_or table (record_start t + letter_cell) 0

-- the record of a row and a way back
abbrev pub record_of : List ℕ → WayBack → List ℕ
record_of row way = row ++ (way.from ∷ way.letter ∷ [])

-- it is written as the record of tuple m
pub record Stored (before after : List ℕ) (m : ℕ) (row : List ℕ) (way : WayBack) : Type 0 where
  pub is : after ≡ sets before (record_start m) (record_of row way)
  pub cells : length row ≡ row_cells
  pub long : record_start m + record_cells ≤ length before
