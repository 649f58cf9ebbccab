-- `columns::number_of` meets its contract: the value is `value_of`'s, and each test compares with its writing. Assumes nothing.
use Rattle.std.specs.Prelude.{None, Option, Some}
use Rattle.lists.specs.Choice.{choose}
use Rattle.columns.specs.Column.{digit_byte}
use Rattle.columns.specs.Number.{value_of, number_of}
use Rattle.columns.specs.NumberLaws.{ones-byte}
use Rattle.lists.specs.ChoiceLaws.{eqb_yes, eqb_no}
use Prim.Native.Nat.{ℕ, ◌+◌, ◌*◌}
use mathlib.Core.Path.{◌≡◌}
use lib.Dec.{eqb}
use Rattle.columns.proofs.number_of.Goals as goal
use Rattle.columns.proofs.number_of.Goals.{After-digit-2, Else-a-digit_byte, Else-b-digit_byte}

-- the number of the three bytes, and their value
abbrev number : After-digit-2 → Option ℕ
number c = let x = c.args in number_of x.a x.b x.c

abbrev value : After-digit-2 → ℕ
value c = c.digit.result * 100 + c.digit-2.result * 10 + c.digit-ones.result

-- what is asked from each test on
abbrev ones : After-digit-2 → Option ℕ
ones c = choose (eqb c.args.c (digit_byte 0 (value c))) (Some (value c)) None

abbrev tens : After-digit-2 → Option ℕ
tens c = choose (eqb c.args.b (digit_byte 1 (value c))) (ones c) None

abbrev hundreds : After-digit-2 → Option ℕ
hundreds c = choose (eqb c.args.a (digit_byte 2 (value c))) (tens c) None

-- at each test, what is left to ask gives the number
left1 : (c : After-digit-2) → hundreds c ≡ number c
unfolding number_of value_of
left1 c = cc

left2 : (c : Else-a-digit_byte) → tens c.before.before ≡ number c.before.before
left2 c = simp (eqb_yes c.if-a-digit_byte.false c.digit_byte.ensures) at (left1 c.before.before)

left3 : (c : Else-b-digit_byte) → ones c.before.before.before.before ≡ number c.before.before.before.before
left3 c = simp (eqb_yes c.if-b-digit_byte.false c.digit_byte-2.ensures) at (left2 c.before.before)

-- the last digit is known before the value is
last : (c : After-digit-2) → 48 + c.digit-ones.result ≡ digit_byte 0 (value c)
last c = ones-byte c.digit.result c.digit-2.result c.digit-ones.result c.digit-ones.ensures.1

pub returns-then-a-digit_byte : goal.returns-then-a-digit_byte
returns-then-a-digit_byte c =
    simp (eqb_no c.if-a-digit_byte.true c.digit_byte.ensures) at (left1 (goal.at.returns-then-a-digit_byte c).After-digit-2)

pub returns-then-b-digit_byte : goal.returns-then-b-digit_byte
returns-then-b-digit_byte c =
    simp (eqb_no c.if-b-digit_byte.true c.digit_byte-2.ensures) at (left2 (goal.at.returns-then-b-digit_byte c).Else-a-digit_byte)

pub returns-then-c-ones : goal.returns-then-c-ones
returns-then-c-ones c =
    simp (eqb_no c.if-c-ones.true (last (goal.at.returns-then-c-ones c).After-digit-2)) at (left3 (goal.at.returns-then-c-ones c).Else-b-digit_byte)

pub returns : goal.returns
returns c =
    simp (eqb_yes c.if-c-ones.false (last (goal.at.returns c).After-digit-2)) at (left3 (goal.at.returns c).Else-b-digit_byte)
