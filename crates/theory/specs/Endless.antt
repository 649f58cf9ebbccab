-- The premise of what is said of any endless word.
use Rattle.std.specs.Prelude.{ℕ, ◌≡◌, ◌⊎◌, Bool, true}

-- an endless row of yes and no either holds a yes or holds none
unfoldable pub LPO : Type 0
LPO = (f : ℕ → Bool) → ((k : ℕ) × (f k ≡ true)) ⊎ ((k : ℕ) → f k ≡ true → ⊥)
