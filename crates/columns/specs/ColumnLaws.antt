-- The cases of a column's definition, its length, and that it tells numbers apart. Assumes nothing.
use Prim.Native.Nat.{ℕ, zero, suc, ◌+◌, ◌-◌, ◌*◌, ◌/◌, ◌%◌, ◌^◌, ◌<◌, ◌≤◌}
use Rattle.std.specs.Prelude.{◌≡◌, refl, true, List, length, set}
use Rattle.std.proofs.Common.{sym, ◌∙◌, ap, ⊎_elim, lit<, lt-ltb, le-ltb, ne_eqb, arith, pow-suc, mul-div_cancel, mod-eq_of_lt, mul_comm, add-one}
use Rattle.std.proofs.lemmas.List.Edits.{sets}
use Rattle.std.proofs.Math.Arith.{mod-mul}
use Rattle.std.proofs.Math.Nat.{pow-le-pow_right, div-eq_of_lt}
use Rattle.lists.specs.ChoiceLaws.{lt-or-ge}
use Rattle.columns.specs.Column.{digit_byte, column}
use Rattle.columns.specs.Number.{digit_of}
use Rattle.text.specs.Word.{no_zero}

-- THE PLACES OF A NUMBER, at a place that is not written as a successor
pub first-place : (i v : ℕ) → i ≡ 0 → digit_byte i v ≡ 48 + v % 10
unfolding digit_byte
first-place i v h = rw h

module _ (i v p : ℕ) (e : p ≡ 10 ^ i) (h : i ≡ 0 → ⊥) where
  pub blank : v < p → digit_byte i v ≡ 32
  unfolding digit_byte
  blank l =
      let z : i ≡ suc (i - 1) = omega (arith, h) in
      let l' : v < 10 ^ suc (i - 1) = rw (← z, ← e) l in
      rw z (simp (lt-ltb _ _ l'))

  pub digit : p ≤ v → digit_byte i v ≡ 48 + v / p % 10
  unfolding digit_byte
  digit l =
      let z : i ≡ suc (i - 1) = omega (arith, h) in
      let e' : p ≡ 10 ^ suc (i - 1) = rw z at e in
      let l' : 10 ^ suc (i - 1) ≤ v = rw (← e') l in
      rw (z, e') (simp (le-ltb _ _ l'))

pub power_pos : (i : ℕ) → 0 < 10 ^ i
power_pos i = pow-le-pow_right {n = 10} (lit< tt) {i = 0} {j = i} (omega arith)

pub power-down : (i j : ℕ) → i ≡ suc j → 10 ^ i / 10 ≡ 10 ^ j
power-down i j z = rw (z, pow-suc) (mul-div_cancel (10 ^ j) {n = 10} (lit< tt))

-- THE WRITING, one place at a time
pub column-step :
    (out : List ℕ) (at v w u : ℕ) → w ≡ suc u → sets out at (column w v) ≡ sets (set out at (digit_byte u v)) (at + 1) (column u v)
unfolding column
column-step out at v w u z = rw (z, add-one at)

pub column-over : (out : List ℕ) (at v w : ℕ) → w ≡ 0 → sets out at (column w v) ≡ out
unfolding column
column-over out at v w z = rw z

pub column-length : (w v : ℕ) → length (column w v) ≡ w
unfolding column
column-length zero v = refl
column-length (suc w) v = ap suc (column-length w v)

-- THE DIGITS
digit-digit : (d : ℕ) → d < 10 → digit_of (48 + d) ≡ d
unfolding digit_of
digit-digit d h = simp (le-ltb (48 + d) 48 (omega arith), lt-ltb (48 + d) 58 (omega arith)) (omega arith)

digit-space : digit_of 32 ≡ 0
unfolding digit_of
digit-space = refl

-- a place of a number is read as the digit that stands there; a space is a zero that is not written
pub digit-of : (i v : ℕ) → digit_of (digit_byte i v) ≡ v / 10 ^ i % 10
unfolding digit_byte
digit-of zero v =
    let e : v / 1 % 10 ≡ v % 10 = omega arith in
    digit-digit (v % 10) (omega arith) ∙ sym e
digit-of (suc i) v =
    ⊎_elim
    (λ (l : v < 10 ^ suc i). simp (lt-ltb v (10 ^ suc i) l, div-eq_of_lt l) digit-space)
    (λ (l : 10 ^ suc i ≤ v). simp (le-ltb v (10 ^ suc i) l) (digit-digit (v / 10 ^ suc i % 10) (omega arith)))
    (lt-or-ge v (10 ^ suc i))

pub digit-small : (b : ℕ) → digit_of b < 10
unfolding digit_of
digit-small b =
    ⊎_elim (λ (l : b < 48). simp (lt-ltb b 48 l) (omega arith))
    (λ (l : 48 ≤ b).
    ⊎_elim (λ (m : b < 58). simp (le-ltb b 48 l, lt-ltb b 58 m) (omega arith))
    (λ (m : 58 ≤ b). simp (le-ltb b 48 l, le-ltb b 58 m) (omega arith))
    (lt-or-ge b 58))
    (lt-or-ge b 48)

-- A column holds no 0 byte
byte-positive : (i v : ℕ) → 0 < digit_byte i v
unfolding digit_byte
byte-positive zero v = omega arith
byte-positive (suc i) v =
    ⊎_elim
    (λ (l : v < 10 ^ suc i). simp (lt-ltb v (10 ^ suc i) l) (omega arith))
    (λ (l : 10 ^ suc i ≤ v). simp (le-ltb v (10 ^ suc i) l) (omega arith))
    (lt-or-ge v (10 ^ suc i))

pub column-no-zero : (w v : ℕ) → no_zero (column w v) ≡ true
unfolding column
column-no-zero zero v = refl
column-no-zero (suc w) v =
    let h = byte-positive w v in
    simp (ne_eqb (digit_byte w v) 0 (λ e. omega arith)) (column-no-zero w v)

-- A column tells numbers apart: the digits up to a place give the number up to there
mod-step : (v w : ℕ) → v % 10 ^ suc w ≡ v / 10 ^ w % 10 * 10 ^ w + v % 10 ^ w
mod-step v w = ap (λ (x : ℕ). v % x) (pow-suc 10 w ∙ mul_comm (10 ^ w) 10) ∙ mod-mul v (lit< tt) (power_pos w)

digits_same : (w u v : ℕ) → column w u ≡ column w v → u % 10 ^ w ≡ v % 10 ^ w
unfolding column
digits_same zero u v e = omega arith
digits_same (suc w) u v e =
    let a : digit_byte w u ≡ digit_byte w v = cc in
    let b : column w u ≡ column w v = cc in
    let d : u / 10 ^ w % 10 ≡ v / 10 ^ w % 10 = sym (digit-of w u) ∙ (ap digit_of a ∙ digit-of w v) in
    let r = digits_same w u v b in
    mod-step u w ∙ (rw (d, r) (sym (mod-step v w)))

pub column-injective : (w u v : ℕ) → u < 10 ^ w → v < 10 ^ w → column w u ≡ column w v → u ≡ v
column-injective w u v hu hv e = sym (mod-eq_of_lt hu) ∙ (digits_same w u v e ∙ mod-eq_of_lt hv)
