-- How a name is found in a file: name parts one after the other, as long as they go.
use Rattle.std.specs.Prelude.{ℕ, zero, suc, ◌+◌, ◌≤◌, ◌<◌, List, get_or, ltb, eqb, None, Option, Some}
use Rattle.text.specs.Bytes.{lf}
use Rattle.lists.specs.Choice.{choose}
use Rattle.names.specs.Name.{is_umlaut, is_decomposed}

-- how many bytes the name part has that three bytes start with; 0 where they start with none
unfoldable pub width_of : ℕ → ℕ → ℕ → ℕ
width_of a b c =
    choose (eqb a 0xC3) (choose (is_umlaut b) 2 0)
    (choose (ltb a 0x21) 0 (choose (ltb 0x7E a) 0 (choose (is_decomposed a b c) 3 1)))

-- the same of the bytes at a place
unfoldable pub width_at : List ℕ → ℕ → ℕ
width_at s at = width_of (get_or s at 0) (get_or s (at + 1) 0) (get_or s (at + 2) 0)

-- where the name parts from `at` on end, or `most` of them
unfoldable pub parts_end : List ℕ → ℕ → ℕ → ℕ
parts_end s at zero = at
parts_end s at (suc most) = choose (eqb (width_at s at) 0) at (parts_end s (at + width_at s at) most)

-- "A name has 1 to 24 bytes", and goes "to the line's end"
unfoldable pub name_end_at : List ℕ → ℕ → Option ℕ
name_end_at s start =
    choose (eqb (parts_end s start 25) start) None
    (choose (ltb (start + 24) (parts_end s start 25)) None (choose (eqb (get_or s (parts_end s start 25) 0) lf) (Some (parts_end s start 25)) None))

-- what to do with the LF of a name that was read, and what where there is none
abbrev pub with_ending : {A : Type 0} → Option ℕ → (ℕ → A) → A → A
with_ending (Some e) go bad = go e
with_ending None go bad = bad

-- a name that ends has 1 to 24 bytes, and its LF stands within so many bytes
abbrev pub name_fits : ℕ → ℕ → Option ℕ → Type 0
name_fits n start (Some e) = (start < e) × (e ≤ start + 24) × (e < n)
name_fits n start None = Unit
