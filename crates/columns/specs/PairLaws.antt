-- Two numbers are read at the end of a line exactly if they are the last of a line of numbers. Assumes nothing.
use Rattle.std.proofs.lemmas.Option.{none-some}
use Rattle.std.specs.Prelude.{ℕ, ◌+◌, ◌<◌, ◌≡◌, refl, Bool, true, false, List, [], ◌∷◌, ◌++◌, length, get_or, drop, eqb, None, Option, Some, unwrap_or}
use Rattle.std.proofs.Common.{sym, ◌∙◌, ap, true≢false, eq-eqb, eqb-true, arith, zero-add}
use Rattle.std.proofs.Math.Bool.{and-eq-true_iff}
use Rattle.lists.specs.Choice.{choose}
use Rattle.lists.specs.ChoiceLaws.{test-true}
use Rattle.text.specs.Bytes.{lf}
use Rattle.columns.specs.Column.{column}
use Rattle.columns.specs.Line.{numbers_line, Narrow, FieldsAt, NumbersAt}
use Rattle.columns.specs.LineLaws.{numbers_line-length, numbers_of-at, numbers-is}
use Rattle.columns.specs.Number.{number_at}
use Rattle.columns.specs.NumberLaws.{some_number}
use Rattle.columns.specs.Pair.{pair_at, with_pair, word_and_pair}
use Rattle.text.specs.Word.{starts_at, no_zero}

-- two numbers that did not lead to `bad`
pub some_pair : {A : Type 0} {bad y : A} → (bad ≡ y → ⊥) → (w : Option (ℕ × ℕ)) (go : ℕ → ℕ → A) → with_pair w go bad ≡ y → (a : ℕ) × (b : ℕ) × (w ≡ Some (a, b)) × (go a b ≡ y)
some_pair other (Some (a, b)) go e = (a, b, refl, e)
some_pair other None go e = absurd (other e)

-- two numbers that are two others
pub some_both : {x y a b : ℕ} → ◌≡◌ {A = Option (ℕ × ℕ)} (Some (x, y)) (Some (a, b)) → (x ≡ a) × (y ≡ b)
some_both e =
    let pair = λ (o : Option (ℕ × ℕ)). unwrap_or o (0, 0) in
    (ap (λ (o : Option (ℕ × ℕ)). (pair o).0) e, ap (λ (o : Option (ℕ × ℕ)). (pair o).1) e)

-- THE LAST TWO NUMBERS of a line
module _ (s : List ℕ) (at a b : ℕ) where
  p6 : at + 3 + 3 ≡ at + 6
  p6 = omega arith

  pair_of : FieldsAt s at (a ∷ b ∷ []) → pair_at s at ≡ Some (a, b)
  pair_of (one, (two, end)) =
      let e : get_or s (at + 6) 0 ≡ lf = rw p6 at end in
      simp (one, two, eq-eqb _ _ e)

  pair_is : pair_at s at ≡ Some (a, b) → FieldsAt s at (a ∷ b ∷ [])
  pair_is e =
      let e3 = test-true (none-some {A = ℕ × ℕ} (a, b)) (eqb (get_or s (at + 6) 0) lf) _ e in
      let e1 = some_number (none-some {A = ℕ × ℕ} (a, b)) (number_at s at) _ e3.1 in
      let e2 = some_number (none-some {A = ℕ × ℕ} (a, b)) (number_at s (at + 3)) _ e1.2 in
      let (ea, eb) = some_both e2.2 in
      (e1.1 ∙ ap Some ea, (e2.1 ∙ ap Some eb, rw p6 (eqb-true _ _ e3.0)))

-- A LINE of the byte of its kind and numbers
module _ (s : List ℕ) (at kind : ℕ) where
  abbrev line : List ℕ → List ℕ
  line vs = numbers_line (kind ∷ []) vs

  kind-of : (vs rest : List ℕ) → Narrow vs → drop at s ≡ line vs ++ rest → (get_or s at 0 ≡ kind) × FieldsAt s (at + 1) vs
  unfolding starts_at
  kind-of vs rest h e =
      let w = numbers_of-at s at (kind ∷ []) vs rest h e in
      (eqb-true _ _ ((and-eq-true_iff (eqb (get_or s at 0) kind) true).0 w.starts).0, w.numbers)

  kind-is : (vs : List ℕ) → no_zero (kind ∷ []) ≡ true → get_or s at 0 ≡ kind → FieldsAt s (at + 1) vs → drop at s ≡ line vs ++ drop (at + length (line vs)) s
  unfolding starts_at
  kind-is vs z first w = (numbers-is s at (kind ∷ []) vs z (record { starts = simp (eq-eqb _ _ first); numbers = w })).1

  -- two, read at once
  pub two-of : (a b : ℕ) (rest : List ℕ) → Narrow (a ∷ b ∷ []) → drop at s ≡ line (a ∷ b ∷ []) ++ rest → (get_or s at 0 ≡ kind) × (pair_at s (at + 1) ≡ Some (a, b))
  two-of a b rest h e =
      let (first, both) = kind-of (a ∷ b ∷ []) rest h e in
      (first, pair_of s (at + 1) a b both)

  pub two_is : (a b : ℕ) → no_zero (kind ∷ []) ≡ true → get_or s at 0 ≡ kind → pair_at s (at + 1) ≡ Some (a, b) → drop at s ≡ line (a ∷ b ∷ []) ++ drop (at + 8) s
  unfolding column
  two_is a b z first both = kind-is (a ∷ b ∷ []) z first (pair_is s (at + 1) a b both)

  -- three, read as a number and two
  p4 : at + 1 + 3 ≡ at + 4
  p4 = omega arith

  pub three-of : (a b c : ℕ) (rest : List ℕ) → Narrow (a ∷ b ∷ c ∷ []) → drop at s ≡ line (a ∷ b ∷ c ∷ []) ++ rest
      → (get_or s at 0 ≡ kind) × (number_at s (at + 1) ≡ Some a) × (pair_at s (at + 4) ≡ Some (b, c))
  three-of a b c rest h e =
      let (first, (one, two)) = kind-of (a ∷ b ∷ c ∷ []) rest h e in
      (first, one, pair_of s (at + 4) b c (rw p4 at two))

  pub three-is : (a b c : ℕ) → no_zero (kind ∷ []) ≡ true → get_or s at 0 ≡ kind → number_at s (at + 1) ≡ Some a → pair_at s (at + 4) ≡ Some (b, c)
      → drop at s ≡ line (a ∷ b ∷ c ∷ []) ++ drop (at + 11) s
  unfolding column
  three-is a b c z first one two = kind-is (a ∷ b ∷ c ∷ []) z first (one, rw p4 (pair_is s (at + 4) b c two))

  -- four, read as two numbers and two
  p7 : at + 4 + 3 ≡ at + 7
  p7 = omega arith

  pub four-of : (a b c d : ℕ) (rest : List ℕ) → Narrow (a ∷ b ∷ c ∷ d ∷ []) → drop at s ≡ line (a ∷ b ∷ c ∷ d ∷ []) ++ rest
      → (get_or s at 0 ≡ kind) × (number_at s (at + 1) ≡ Some a) × (number_at s (at + 4) ≡ Some b) × (pair_at s (at + 7) ≡ Some (c, d))
  four-of a b c d rest h e =
      let (first, (one, (two, last))) = kind-of (a ∷ b ∷ c ∷ d ∷ []) rest h e in
      (first, one, rw p4 at two, pair_of s (at + 7) c d (rw (p4, p7) at last))

  pub four_is : (a b c d : ℕ) → no_zero (kind ∷ []) ≡ true → get_or s at 0 ≡ kind → number_at s (at + 1) ≡ Some a → number_at s (at + 4) ≡ Some b
      → pair_at s (at + 7) ≡ Some (c, d) → drop at s ≡ line (a ∷ b ∷ c ∷ d ∷ []) ++ drop (at + 14) s
  unfolding column
  four_is a b c d z first one two last = kind-is (a ∷ b ∷ c ∷ d ∷ []) z first (one, (rw p4 two, rw (p4, p7) (pair_is s (at + 7) c d last)))

-- A FIRST LINE: a word and two numbers
module _ (s word : List ℕ) where
  abbrev first : ℕ → ℕ → List ℕ
  first a b = numbers_line word (a ∷ b ∷ [])

  abbrev pub NoFirst : Type 0
  NoFirst = (a b : ℕ) (rest : List ℕ) → a < 1000 → b < 1000 → s ≡ first a b ++ rest → ⊥

  read : (a b : ℕ) (rest : List ℕ) → a < 1000 → b < 1000 → s ≡ first a b ++ rest → (starts_at s 0 word ≡ true) × (pair_at s (length word) ≡ Some (a, b))
  read a b rest ha hb e =
      let w = numbers_of-at s 0 word (a ∷ b ∷ []) rest (ha, (hb, tt)) e in
      (w.starts, pair_of s (length word) a b (rw zero-add at w.numbers))

  pub first-pair : (a b : ℕ) (rest : List ℕ) → a < 1000 → b < 1000 → s ≡ first a b ++ rest → word_and_pair s word ≡ Some (a, b)
  first-pair a b rest ha hb e =
      let (starts, pair) = read a b rest ha hb e in
      simp (starts, pair)

  -- what is so where there is no such line, and where there is one, is so of what is read
  pub first-outcome : (P : Option (ℕ × ℕ) → Type 0) → no_zero word ≡ true → (NoFirst → P None)
      → ((a b : ℕ) → a < 1000 → b < 1000 → s ≡ first a b ++ drop (length word + 7) s → P (Some (a, b))) → P (word_and_pair s word)
  first-outcome P z none some = by (starts_at s 0 word) (pair_at s (length word)) refl refl
    where
      by : (t : Bool) (w : Option (ℕ × ℕ)) → starts_at s 0 word ≡ t → pair_at s (length word) ≡ w → P (choose t w None)
      by false w e f = none (λ a b rest ha hb g. true≢false (sym (read a b rest ha hb g).0 ∙ e))
      by true None e f = none (λ a b rest ha hb g. none-some {A = ℕ × ℕ} (a, b) (sym f ∙ (read a b rest ha hb g).1))
      by true (Some (a, b)) e f =
          let w : NumbersAt s 0 word (a ∷ b ∷ []) = record { starts = e; numbers = rw zero-add (pair_is s (length word) a b f) } in
          let ((ha, (hb, _)), text) = numbers-is s 0 word (a ∷ b ∷ []) z w in
          let l : 0 + length (first a b) ≡ length word + 7 = omega (arith, numbers_line-length word (a ∷ b ∷ [])) in
          some a b ha hb (rw l at text)
