-- Composed names in rows: the row of letter l starts at cell 24 * l.
use Rattle.std.specs.Prelude.{ℕ, ◌+◌, ◌*◌, ◌≤◌, ◌<◌, ◌≡◌, List, [], length, get_or, take, drop}
use Rattle.lists.specs.Search.{IsFirst, same, first_that}
use Rattle.names.specs.Name.{IsName}
use Rattle.gate.specs.Gate.{padded}
use Rattle.name_rows.specs.Row.{name_row}

-- the row of a letter holds a name
pub record RowIs (rows : List ℕ) (l : ℕ) (x : List ℕ) : Type 0 where
  pub is_name : IsName x
  pub is : name_row rows (24 * l) ≡ padded 24 x

-- the rows hold composed names, those of the letters from 0 on
abbrev pub HoldNames : List (List ℕ) → List ℕ → Type 0
HoldNames names rows = (l : ℕ) → l < length names → RowIs rows l (get_or names l [])

-- only row k may differ: the rows ahead of it and what lies behind it are as they were
pub record OnlyRow (k : ℕ) (old new : List ℕ) : Type 0 where
  pub ahead : take (24 * k) new ≡ take (24 * k) old
  pub behind : drop (24 * (k + 1)) new ≡ drop (24 * (k + 1)) old

-- the first row that is like row `count`
pub record FirstLike (rows : List ℕ) (count l : ℕ) : Type 0 where
  pub most : l ≤ count
  pub like : name_row rows (24 * l) ≡ name_row rows (24 * count)
  pub first : (i : ℕ) → i < l → name_row rows (24 * i) ≡ name_row rows (24 * count) → ⊥

-- the first of some composed names that is x; their count where none is
abbrev pub FirstName : List (List ℕ) → List ℕ → ℕ → Type 0
FirstName = IsFirst []

-- its number, by a search
abbrev pub letter_of : List (List ℕ) → List ℕ → ℕ
letter_of names x = first_that (λ y. same y x) names
