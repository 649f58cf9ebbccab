-- The colours' order, and the colour of one place. Assumes nothing.
use Rattle.std.specs.Prelude.{ℕ, ◌+◌, ◌*◌, ◌-◌, ◌<◌, ◌≡◌, refl, Bool, true, false, T}
use Rattle.std.proofs.Common.{arith}
use mir.Val.{bool_byte}
use Rattle.colour.specs.Colour.{marked, emptied, changed, colour_at}

-- of two colours at one place emptied has the smaller: "a set that is marked, dies and returns for ever would pass" else
pub emptied-below : (i : ℕ) → emptied i < marked i
emptied-below i = omega arith

-- Document 02, R-3: "2i+2 less one for an emptied one" is, at every place, the rule for marked or the rule for emptied. bool_byte is the number that the
-- language casts a yes or no to, 1 or 0.
pub changed-is : (i : ℕ) (e : Bool) → 2 * i + 2 - bool_byte e ≡ changed i e
unfolding changed
changed-is i true = omega arith
changed-is i false = omega arith

pub colour-mark : (n i : ℕ) (m e : Bool) → T m → colour_at n i m e ≡ marked i
unfolding colour_at
colour-mark n i true e h = refl
colour-mark n i false e h = absurd h

pub colour-gone : (n i : ℕ) (m e : Bool) → (T m → ⊥) → T e → colour_at n i m e ≡ emptied i
unfolding colour_at
colour-gone n i true e f h = absurd (f tt)
colour-gone n i false true f h = refl
colour-gone n i false false f h = absurd h
