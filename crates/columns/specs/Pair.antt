-- Two numbers that end a line, read at once: every line of numbers ends with two.
use Rattle.std.specs.Prelude.{ℕ, ◌+◌, List, length, get_or, eqb, None, Option, Some}
use Rattle.lists.specs.Choice.{choose}
use Rattle.text.specs.Bytes.{lf}
use Rattle.columns.specs.Number.{number_at, with_number}
use Rattle.text.specs.Word.{starts_at}

-- the numbers in the three columns from `at` and the three behind them, before an LF
abbrev pub pair_at : List ℕ → ℕ → Option (ℕ × ℕ)
pair_at s at = choose (eqb (get_or s (at + 6) 0) lf) (with_number (number_at s at) (λ a. with_number (number_at s (at + 3)) (λ b. Some (a, b)) None) None) None

-- what to do with two numbers that were read, and what where there are none
abbrev pub with_pair : {A : Type 0} → Option (ℕ × ℕ) → (ℕ → ℕ → A) → A → A
with_pair (Some (a, b)) go bad = go a b
with_pair None go bad = bad

-- the two numbers of a first line, which opens with a word
abbrev pub word_and_pair : List ℕ → List ℕ → Option (ℕ × ℕ)
word_and_pair s word = choose (starts_at s 0 word) (pair_at s (length word)) None
