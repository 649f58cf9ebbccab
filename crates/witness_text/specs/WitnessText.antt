-- The lines of a witness: `WORD` with its letters, and twice `WALK` with the states of a walk.
use Rattle.std.specs.Prelude.{ℕ, ◌+◌, List, [], ◌∷◌, ◌++◌, ltb, get_or}
use Rattle.lists.specs.Choice.{choose}
use Rattle.text.specs.Bytes.{lf, space}
use Rattle.columns.specs.Column.{column}
use Rattle.text.specs.Pieces.{pieces}
use Rattle.lent.specs.Lent.{WitnessTables}

-- a letter or a state behind a space: it is below 16, and has one digit or two
unfoldable pub spaced : ℕ → List ℕ
spaced v = space ∷ choose (ltb v 10) (column 1 v) (column 2 v)

-- a word, and the first `count` cells of a table
unfoldable pub cells_line : List ℕ → List ℕ → ℕ → List ℕ
cells_line name table count = name ++ (pieces (λ i. spaced (get_or table i 0)) 0 count ++ (lf ∷ []))

-- `WORD` with the t letters of a witness, and twice `WALK` with the states of a walk
unfoldable pub witness_text : WitnessTables → ℕ → List ℕ
witness_text w t =
    cells_line (87 ∷ 79 ∷ 82 ∷ 68 ∷ []) w.word t
    ++ (cells_line (87 ∷ 65 ∷ 76 ∷ 75 ∷ []) w.one (t + 1) ++ cells_line (87 ∷ 65 ∷ 76 ∷ 75 ∷ []) w.other (t + 1))
