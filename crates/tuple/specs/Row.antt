-- A tuple as a row of numbers, as document 01 has it in a lent table: "sets 0 to 15 and then the colour".
use Rattle.std.specs.Prelude.{ℕ, ◌-◌, ◌<◌, ◌≡◌, List, [], ◌∷◌, ◌++◌, length, get_or, take, replicate}
use Rattle.automaton.specs.Automaton.{Automaton, Fits}
use Rattle.lists.specs.Search.{leading}
use Rattle.tuple_record.specs.Record.{set_cells}
use Rattle.tuple.specs.Step.{Tuple}

-- the numbers of a tuple: its sets, then empty sets, then the colour
unfoldable pub row : Tuple → List ℕ
row u = u.sets ++ (replicate (set_cells - length u.sets) 0 ++ (u.colour ∷ []))

-- the sets of a row, those before the first empty one
abbrev pub sets_of : List ℕ → List ℕ
sets_of cells = leading (take set_cells cells)

-- the tuple of a row
unfoldable pub tuple_of : List ℕ → Tuple
tuple_of cells = record { sets = sets_of cells; colour = get_or cells set_cells 0 }

-- what a step asks: the numbers fit, the letter is one of the sheet's, and the cells are the row of a tuple
pub record Steps (A : Automaton) (l : ℕ) (cells : List ℕ) : Type 0 where
  pub fits : Fits A
  pub letter : l < A.k
  pub is_row : cells ≡ row (tuple_of cells)
