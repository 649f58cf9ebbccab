-- What is written in three columns is read back, and what is read is what is written there. Assumes nothing.
use Rattle.std.proofs.lemmas.Option.{none-some}
use Rattle.std.specs.Prelude.{ℕ, ◌+◌, ◌*◌, ◌/◌, ◌%◌, ◌<◌, ◌≤◌, ◌≡◌, refl, true, ◌&&◌, List, ◌∷◌, ◌++◌, length, get_or, drop, eqb, leb, None, Option, Some}
use Rattle.std.proofs.Common.{sym, ◌∙◌, arith}
use Rattle.std.proofs.Math.Path.{ap}
use Rattle.std.proofs.Math.Bool.{false≢true, and-eq-true_iff}
use borrow.Author.Tests.{eq-eqb, eqb-true, le-leb, leb-true}
use Rattle.lists.specs.ChoiceLaws.{test-true}
use Rattle.text.specs.BytesLaws.{stretch-rest}
use Rattle.columns.specs.Column.{digit_byte, column}
use Rattle.columns.specs.ColumnLaws.{digit-of, digit-small, column-no-zero, column-length}
use Rattle.text.specs.Word.{starts_at}
use Rattle.text.specs.WordLaws.{starts_is, goes_on, byte-is}
use Rattle.columns.specs.Number.{digit_of, value_of, number_of, number_at, with_number, is_numbered, is_between}

value_written : (v : ℕ) → v < 1000 → value_of (digit_byte 2 v) (digit_byte 1 v) (digit_byte 0 v) ≡ v
unfolding value_of
value_written v h =
    let a : digit_of (digit_byte 2 v) ≡ v / 100 % 10 = digit-of 2 v in
    let b : digit_of (digit_byte 1 v) ≡ v / 10 % 10 = digit-of 1 v in
    let c : digit_of (digit_byte 0 v) ≡ v / 1 % 10 = digit-of 0 v in
    omega arith

-- the byte of the last digit, where the digits are known
pub ones-byte : (x y z : ℕ) → z < 10 → 48 + z ≡ digit_byte 0 (x * 100 + y * 10 + z)
unfolding digit_byte
ones-byte x y z h = omega arith

read-written : (v : ℕ) → v < 1000 → number_of (digit_byte 2 v) (digit_byte 1 v) (digit_byte 0 v) ≡ Some v
unfolding number_of
read-written v h =
    rw value_written
    (simp (eq-eqb (digit_byte 2 v) (digit_byte 2 v) refl, eq-eqb (digit_byte 1 v) (digit_byte 1 v) refl, eq-eqb (digit_byte 0 v) (digit_byte 0 v) refl))

-- THE LAW, one way: a number below 1000 in the three columns from `at` is read
number-column : (s rest : List ℕ) (at v : ℕ) → v < 1000 → drop at s ≡ column 3 v ++ rest → number_at s at ≡ Some v
unfolding number_at column
number-column s rest at v h e =
    let a = goes_on s at _ _ e in
    let b = goes_on s (at + 1) _ _ a.1 in
    let c = goes_on s (at + 1 + 1) _ _ b.1 in
    let two : at + 1 + 1 ≡ at + 2 = omega arith in
    let c' : get_or s (at + 2) 0 ≡ digit_byte 0 v = ap (λ (n : ℕ). get_or s n 0) (sym two) ∙ c.0 in
    rw (a.0, b.0, c') (read-written v h)

-- "(3)": three columns, and what stands behind them
pub column-of : (s : List ℕ) (at v : ℕ) (rest : List ℕ) → v < 1000 → drop at s ≡ column 3 v ++ rest → (number_at s at ≡ Some v) × (drop (at + 3) s ≡ rest)
column-of s at v rest h e = (number-column s rest at v h e, rw (column-length 3 v) at (stretch-rest s at (column 3 v) rest e))

-- a number that did not lead to `bad`
pub some_number : {A : Type 0} {bad y : A} → (bad ≡ y → ⊥) → (w : Option ℕ) (go : ℕ → A) → with_number w go bad ≡ y → (v : ℕ) × (w ≡ Some v) × (go v ≡ y)
some_number other (Some v) go e = (v, refl, e)
some_number other None go e = absurd (other e)

value-small : (a b c : ℕ) → value_of a b c < 1000
unfolding value_of
value-small a b c = omega (arith, digit-small a, digit-small b, digit-small c)

-- three bytes that are read as v are the writing of v
read-is-written :
    (a b c v : ℕ) → number_of a b c ≡ Some v → (v < 1000) × (a ≡ digit_byte 2 v) × (b ≡ digit_byte 1 v) × (c ≡ digit_byte 0 v)
unfolding number_of
read-is-written a b c v p =
    let p1 = test-true (none-some v) _ _ p in
    let p2 = test-true (none-some v) _ _ p1.1 in
    let p3 = test-true (none-some v) _ _ p2.1 in
    let e1 : a ≡ digit_byte 2 (value_of a b c) = eqb-true _ _ p1.0 in
    let e2 : b ≡ digit_byte 1 (value_of a b c) = eqb-true _ _ p2.0 in
    let e3 : c ≡ digit_byte 0 (value_of a b c) = eqb-true _ _ p3.0 in
    let q : Some (value_of a b c) ≡ Some v = p3.1 in
    let u : value_of a b c ≡ v = cc in
    (omega (arith, value-small a b c), cc, cc, cc)

starts-column :
    (s : List ℕ) (at v : ℕ) →
    get_or s at 0 ≡ digit_byte 2 v →
    get_or s (at + 1) 0 ≡ digit_byte 1 v → get_or s (at + 2) 0 ≡ digit_byte 0 v → starts_at s at (column 3 v) ≡ true
unfolding starts_at column
starts-column s at v a b c =
    let two : at + 1 + 1 ≡ at + 2 = omega arith in
    simp (eq-eqb _ _ a, eq-eqb _ _ b, two, eq-eqb _ _ c)

-- THE LAW, the other way: a number that is read is below 1000, and the file goes on with its writing
pub number_is : (s : List ℕ) (at v : ℕ) → number_at s at ≡ Some v → (v < 1000) × (drop at s ≡ column 3 v ++ drop (at + 3) s)
unfolding number_at
number_is s at v e =
    let w = read-is-written _ _ _ v e in
    let l : length (column 3 v) ≡ 3 = column-length 3 v in
    (w.0, starts_is s at (column 3 v) (column-no-zero 3 v) (starts-column s at v w.1 w.2 w.3) ∙ rw l)

-- A LINE THAT OPENS WITH ITS KIND AND A NUMBER
module _ (s : List ℕ) (at kind v : ℕ) where
  pub numbered-by : get_or s at 0 ≡ kind → number_at s (at + 1) ≡ Some v → is_numbered s at kind v ≡ true
  unfolding is_numbered
  numbered-by e f = simp (eq-eqb _ _ e, f, eq-eqb v v refl)

  pub numbered-parts : is_numbered s at kind v ≡ true → (get_or s at 0 ≡ kind) × (number_at s (at + 1) ≡ Some v)
  unfolding is_numbered
  numbered-parts e =
      let t = (and-eq-true_iff (eqb (get_or s at 0) kind) _).0 e in
      let n = some_number (λ z. false≢true z) (number_at s (at + 1)) _ t.1 in
      (eqb-true _ _ t.0, n.1 ∙ ap Some (eqb-true n.0 v n.2))

  p4 : at + 1 + 3 ≡ at + 4
  p4 = omega arith

  pub numbered_of : (rest : List ℕ) → v < 1000 → drop at s ≡ kind ∷ (column 3 v ++ rest) → (is_numbered s at kind v ≡ true) × (drop (at + 4) s ≡ rest)
  numbered_of rest h e =
      let e0 = goes_on s at kind (column 3 v ++ rest) e in
      let e1 = column-of s (at + 1) v rest h e0.1 in
      (numbered-by e0.0 e1.0, rw p4 at e1.1)

  pub numbered_is : 0 < kind → is_numbered s at kind v ≡ true → drop at s ≡ kind ∷ (column 3 v ++ drop (at + 4) s)
  numbered_is h e =
      let p = numbered-parts e in
      byte-is s at kind h p.0 ∙ ap (kind ∷◌) (rw p4 at (number_is s (at + 1) v p.1).1)

-- TWO NUMBERS, each in its range
module _ (a b : ℕ) {least most least' most' : ℕ} where
  pub between_is : is_between least most a && is_between least' most' b ≡ true → (least ≤ a) × (a ≤ most) × (least' ≤ b) × (b ≤ most')
  between_is e =
      let t = (and-eq-true_iff (is_between least most a) _).0 e in
      let u = (and-eq-true_iff (leb least a) _).0 t.0 in
      let v = (and-eq-true_iff (leb least' b) _).0 t.1 in
      (leb-true _ _ u.0, leb-true _ _ u.1, leb-true _ _ v.0, leb-true _ _ v.1)

  pub between-of : (least ≤ a) × (a ≤ most) × (least' ≤ b) × (b ≤ most') → is_between least most a && is_between least' most' b ≡ true
  between-of h = simp (le-leb least a h.0, le-leb a most h.1, le-leb least' b h.2, le-leb b most' h.3)
