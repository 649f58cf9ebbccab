-- Document 01, "A whole listing": the lines that the programs print.
use Rattle.std.specs.Prelude.{ℕ, Bool, true, false, List, [], ◌∷◌, ◌++◌}
use Rattle.gate.specs.declared.Refusal.{Refusal}
use Rattle.text.specs.Bytes.{lf}
use Rattle.columns.specs.Column.{column}

-- a word of three letters, a number in 3 columns and one in 5
unfoldable pub report_line : List ℕ → ℕ → ℕ → List ℕ
report_line word a b = word ++ (column 3 a ++ (column 5 b ++ (lf ∷ [])))

-- "For a refusal either program prints `REF`, number (3), line (5)."
abbrev pub refusal_line : ℕ → ℕ → List ℕ
refusal_line number line = report_line (82 ∷ 69 ∷ 70 ∷ []) number line

-- the line of a refusal
abbrev pub line_of : Refusal → List ℕ
line_of r = refusal_line r.number r.line

-- "`YES` or ` NO`, least colour (3), passes (5)"
abbrev answer_word : Bool → List ℕ
answer_word true = 89 ∷ 69 ∷ 83 ∷ []
answer_word false = 32 ∷ 78 ∷ 79 ∷ []

abbrev pub verdict_line : Bool → ℕ → ℕ → List ℕ
verdict_line passed least passes = report_line (answer_word passed) least passes
