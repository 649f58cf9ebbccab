-- Document 01, "A whole listing": each line over the tables' cells.
use Rattle.std.specs.Prelude.{ℕ, ◌+◌, ◌*◌, List, [], ◌∷◌, ◌++◌, get_or}
use Rattle.text.specs.Bytes.{lf}
use Rattle.tuple_record.specs.Record.{set_in, colour_in}
use Rattle.columns.specs.Column.{column}
use Rattle.text.specs.Pieces.{pieces}

-- the first `count` numbers of a sequence in columns, w wide
abbrev pub columns : ℕ → (ℕ → ℕ) → ℕ → List ℕ
columns w f count = pieces (λ i. column w (f i)) 0 count

-- "First line: TRACK, n (3), k (3), tuples (5)."
unfoldable pub track_line : ℕ → ℕ → ℕ → List ℕ
track_line n k count = (84 ∷ 82 ∷ 65 ∷ 67 ∷ 75 ∷ []) ++ (column 3 n ++ (column 3 k ++ (column 5 count ++ (lf ∷ []))))

-- "Then for each tuple Q, number (5), colour (3), n sets (6 each), k next tuples (5 each)."
unfoldable pub tuple_line : ℕ → ℕ → List ℕ → List ℕ → ℕ → List ℕ
tuple_line n k tuples nexts t =
    81 ∷ (column 5 t
    ++ (column 3 (colour_in tuples t)
    ++ (columns 6 (set_in tuples t) n
    ++ (columns 5 (λ l. get_or nexts (8 * t + l) 0) k ++ (lf ∷ [])))))
