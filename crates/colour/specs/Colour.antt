-- Document 01: "The neutral, marked and emptied colours are constants and rules of the colour itself."
use Rattle.std.specs.Prelude.{ℕ, ◌+◌, ◌*◌, Bool, true, false, ◌&&◌, ltb}
use Rattle.sets.specs.Sets.{is_empty}

-- "2n+1 if there is none": no place is marked or emptied
abbrev pub neutral : ℕ → ℕ
neutral n = 2 * n + 1

-- "2i+2 for marked i"
abbrev pub marked : ℕ → ℕ
marked i = 2 * i + 2

-- "2i+1 for each i non-empty before the step and empty now"
abbrev pub emptied : ℕ → ℕ
emptied i = 2 * i + 1

-- the colour of a marked or emptied place i: is it emptied
unfoldable pub changed : ℕ → Bool → ℕ
changed i true = emptied i
changed i false = marked i

-- "1 if set 0 is empty"
abbrev pub dead : ℕ
dead = 1

-- is place i, with set x now, "non-empty before the step and empty now"? The first p places were non-empty before the step.
abbrev pub is_emptied : ℕ → ℕ → ℕ → Bool
is_emptied p i x = is_empty x && ltb i p

-- the colour of place i: is it marked, is it emptied
unfoldable pub colour_at : ℕ → ℕ → Bool → Bool → ℕ
colour_at n i true e = marked i
colour_at n i false true = emptied i
colour_at n i false false = neutral n

-- the colour of a step: is set 0 empty
unfoldable pub dead_or : Bool → ℕ → ℕ
dead_or true c = dead
dead_or false c = c
