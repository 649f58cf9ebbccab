-- Question 16 on numbers, cell by cell of the table of successor sets: the superseding letters stand in cells, 0 where a letter is not withdrawn.
use Rattle.std.specs.Prelude.{ℕ, ◌%◌, ◌<◌, ◌≡◌, List, get_or}

-- cell i of the table, which is of letter i % 8, is empty where this letter is withdrawn
abbrev pub CellInForce : List ℕ → List ℕ → ℕ → Type 0
CellInForce table superseding i = (get_or superseding (i % 8) 0 ≡ 0 → ⊥) → get_or table i 0 ≡ 0

abbrev pub CellsInForce : List ℕ → List ℕ → Type 0
CellsInForce table superseding = (i : ℕ) → i < 128 → CellInForce table superseding i
