-- The names in rows, one after the other.
use Rattle.std.specs.Prelude.{ℕ, zero, suc, List, [], ◌∷◌}
use Rattle.sheet_lines.specs.RowName.{row_name}

-- the names in the rows from l on, of which there are `left`
unfoldable pub row_names : List ℕ → ℕ → ℕ → List (List ℕ)
row_names rows l zero = []
row_names rows l (suc left) = row_name rows l ∷ row_names rows (suc l) left
