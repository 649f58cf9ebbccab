-- A stretch of a file, composed into a row of 24 cells.
use Rattle.std.specs.Prelude.{ℕ, ◌+◌, ◌-◌, ◌≤◌, Bool, false, List, length, get_or, take, drop, ltb}
use Rattle.lists.specs.Choice.{choose}
use Rattle.names.specs.Name.{is_decomposed}

-- a stretch lies within a list
pub record Stretches (s : List ℕ) (start end : ℕ) : Type 0 where
  pub order : start ≤ end
  pub fits : end ≤ length s

-- the stretch from i to `end` starts with a vowel and CC 88
unfoldable pub diaeresis_at : List ℕ → ℕ → ℕ → Bool
diaeresis_at s i end =
    choose (ltb (end - i) 3) false (is_decomposed (get_or s i 0) (get_or s (i + 1) 0) (get_or s (i + 2) 0))

-- the row that starts at a place
abbrev pub name_row : List ℕ → ℕ → List ℕ
name_row rows at = take 24 (drop at rows)
