-- A list in the cells of a lent table; the answer of a call in numbers, for callers that have no enums; the cells of a name, a refusal, a written text.
use Rattle.std.specs.Prelude.{ℕ, ◌≡◌, ◌-◌, List, [], ◌∷◌, ◌++◌, length, replicate, take, Err, Ok, Result}
use Rattle.gate.specs.Gate.{padded}
use Rattle.gate.specs.declared.Refusal.{Refusal}

-- as much of a list as a table holds, with `filler` behind it
abbrev pub filled : {T : Type 0} → T → List T → List T → List T
filled filler table list = take (length table) (list ++ replicate (length table - length list) filler)

-- as much of a list as a lent table holds, with zeros behind it
abbrev pub into : List ℕ → List ℕ → List ℕ
into table list = take (length table) (padded (length table) list)

-- THE ANSWER OF A CALL IN NUMBERS: an answer that the call's contract allows, by its cells in a lent table that was a and is b
pub record InNumbers {X : Type 0} (Call : X → Type 0) (cells : X → List ℕ) (a b : List ℕ) : Type 0 where
  pub answer : X
  pub call : Call answer
  pub table : b ≡ into a (cells answer)

-- THE CELLS OF AN ANSWER. Where there are several cases the first cell tells which it is, and 0 is a refusal.

-- "A refusal is the number with the line"; behind them the length of the witness
abbrev pub number_cells : Refusal → List ℕ
number_cells r = r.number ∷ r.line ∷ r.length ∷ []

abbrev pub refusal_cells : Refusal → List ℕ
refusal_cells r = 0 ∷ number_cells r

abbrev pub written_cells : Result ℕ Refusal → List ℕ
written_cells (Err r) = refusal_cells r
written_cells (Ok count) = 1 ∷ count ∷ []

-- a name: how many bytes it has
abbrev pub name_cells : List ℕ → List ℕ
name_cells name = length name ∷ []
