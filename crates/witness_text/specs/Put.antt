-- What the functions that write a witness are proved against: the texts of cells, at a place of a buffer.
use Rattle.std.specs.Prelude.{ℕ, ◌+◌, ◌≤◌, ◌≡◌, List, length, get_or}
use Rattle.std.proofs.lemmas.List.Edits.{sets}
use Rattle.text.specs.Pieces.{pieces}
use Rattle.witness_text.specs.WitnessText.{spaced}

-- the first `count` cells of a table, each behind a space
abbrev pub spaced_cells : List ℕ → ℕ → List ℕ
spaced_cells table count = pieces (λ i. spaced (get_or table i 0)) 0 count

-- a text was written at `at` in a buffer that was b and is c; the answer is the place behind it
pub record WrittenAt (text b : List ℕ) (at : ℕ) (c : List ℕ) (behind : ℕ) : Type 0 where
  pub stored : c ≡ sets b at text
  pub behind-it : behind ≡ at + length text

-- the first `count` cells are there, and room for a text at `at`
pub record CellsThere (table : List ℕ) (count : ℕ) (text : List ℕ) (at : ℕ) (out : List ℕ) : Type 0 where
  pub cells : count ≤ length table
  pub room : at + length text ≤ length out
