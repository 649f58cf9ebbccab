-- A line of numbers, as it is written and as it is read: "SHEET, then n (3 columns), k (3)"; "`T`, from (3), letter (3), to (3)".
use Rattle.std.specs.Prelude.{ℕ, ◌+◌, ◌<◌, ◌≡◌, true, List, [], ◌∷◌, ◌++◌, length, get_or, Some}
use Rattle.text.specs.Bytes.{lf}
use Rattle.columns.specs.Column.{column}
use Rattle.columns.specs.Number.{number_at}
use Rattle.text.specs.Word.{starts_at}

-- numbers in three columns each, and what stands behind them
abbrev pub fields : List ℕ → List ℕ → List ℕ
fields [] rest = rest
fields (v ∷ vs) rest = column 3 v ++ fields vs rest

-- a line of numbers: it opens with a word, or with the byte of its kind
abbrev pub numbers_line : List ℕ → List ℕ → List ℕ
numbers_line opening vs = opening ++ fields vs (lf ∷ [])

-- each number has at most three digits
abbrev pub Narrow : List ℕ → Type 0
Narrow [] = Unit
Narrow (v ∷ vs) = (v < 1000) × Narrow vs

-- numbers that are read from `at` on, one behind the other, and then LF
abbrev pub FieldsAt : List ℕ → ℕ → List ℕ → Type 0
FieldsAt s at [] = get_or s at 0 ≡ lf
FieldsAt s at (v ∷ vs) = (number_at s at ≡ Some v) × FieldsAt s (at + 3) vs

-- a line of numbers that is read at `at`
pub record NumbersAt (s : List ℕ) (at : ℕ) (opening vs : List ℕ) : Type 0 where
  pub starts : starts_at s at opening ≡ true
  pub numbers : FieldsAt s (at + length opening) vs
