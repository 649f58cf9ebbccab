-- A name in a row of 24 bytes, with zeros behind it: no name has a zero byte.
use Rattle.std.specs.Prelude.{ℕ, ◌*◌, List}
use Rattle.lists.specs.Search.{leading}
use Rattle.name_rows.specs.Row.{name_row}

-- the name in row l
abbrev pub row_name : List ℕ → ℕ → List ℕ
row_name rows l = leading (name_row rows (24 * l))
