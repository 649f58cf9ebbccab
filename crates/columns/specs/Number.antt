-- A number of a file, read: "decimal, right-justified with spaces in fixed columns, no leading zeros", three columns wide.
-- Read loosely, and then the three bytes must be the writing of what they come to.
use Rattle.std.specs.Prelude.{ℕ, ◌+◌, ◌-◌, ◌*◌, Bool, false, ◌&&◌, List, get_or, ltb, leb, eqb, None, Option, Some}
use Rattle.lists.specs.Choice.{choose}
use Rattle.columns.specs.Column.{digit_byte}

-- the digit that a byte is; any other byte counts 0
unfoldable pub digit_of : ℕ → ℕ
digit_of b = choose (ltb b 48) 0 (choose (ltb b 58) (b - 48) 0)

-- what three bytes come to, read as digits
unfoldable pub value_of : ℕ → ℕ → ℕ → ℕ
value_of a b c = digit_of a * 100 + digit_of b * 10 + digit_of c

-- the number that three bytes are, if they are its writing
unfoldable pub number_of : ℕ → ℕ → ℕ → Option ℕ
number_of a b c =
    choose (eqb a (digit_byte 2 (value_of a b c)))
    (choose (eqb b (digit_byte 1 (value_of a b c))) (choose (eqb c (digit_byte 0 (value_of a b c))) (Some (value_of a b c)) None) None)
    None

-- the number in the three columns from `at`; a byte past the end is 0, which stands in no column
unfoldable pub number_at : List ℕ → ℕ → Option ℕ
number_at s at = number_of (get_or s at 0) (get_or s (at + 1) 0) (get_or s (at + 2) 0)

-- what to do with a number that was read, and what where there is none
abbrev pub with_number : {A : Type 0} → Option ℕ → (ℕ → A) → A → A
with_number (Some v) go bad = go v
with_number None go bad = bad

-- does the line at `at` open with a byte, which tells its kind, and a number
unfoldable pub is_numbered : List ℕ → ℕ → ℕ → ℕ → Bool
is_numbered s at kind v = eqb (get_or s at 0) kind && with_number (number_at s (at + 1)) (λ n. eqb n v) false

-- is a number from `least` to `most`
abbrev pub is_between : ℕ → ℕ → ℕ → Bool
is_between least most v = leb least v && leb v most
