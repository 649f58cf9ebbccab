-- A first line, of a sheet or of a plan: its phase passes or refuses as the line's form and the bounds of its numbers say. Assumes nothing.
use Rattle.std.specs.Prelude.{ℕ, ◌+◌, ◌<◌, ◌≡◌, refl, Bool, true, false, List, [], ◌∷◌, ◌++◌, length, drop, Err, None, Ok, Option, Result, Some}
use Rattle.std.specs.Result.{result_unwrap_or}
use Rattle.std.proofs.Common.{sym, ap, ◌∙◌, true≢false, arith}
use Rattle.gate.specs.Gate.{refusal}
use Rattle.gate.specs.declared.Refusal.{Refusal}
use Rattle.lists.specs.Choice.{choose}
use Rattle.columns.specs.NumberLaws.{between_is, between-of}
use Rattle.columns.specs.Line.{numbers_line}
use Rattle.columns.specs.Pair.{word_and_pair}
use Rattle.columns.specs.PairLaws.{NoFirst, first-pair, first-outcome}
use Rattle.text.specs.Word.{no_zero}
use Rattle.frame.specs.declared.Bounds.{Bounds}
use Rattle.frame.specs.Phase.{Phase, refused, passed, in_bounds, first_phase}
use Rattle.frame.specs.Answers.{first_answer, WithinBounds}

-- two numbers that are handed on, and two others
pub ok_both : {x y a b : ℕ} → ◌≡◌ {A = Result (ℕ × ℕ) Refusal} (Ok (a, b)) (Ok (x, y)) → (x ≡ a) × (y ≡ b)
ok_both e =
    let pair = λ (r : Result (ℕ × ℕ) Refusal). result_unwrap_or r (0, 0) in
    (sym (ap (λ (r : Result (ℕ × ℕ) Refusal). (pair r).0) e), sym (ap (λ (r : Result (ℕ × ℕ) Refusal). (pair r).1) e))

-- THE CODE'S ANSWER tells the phase, whatever is made of the two numbers
module _ (β : Bounds) {A : Type 0} (make : ℕ → ℕ → A) (form range : ℕ) where
  abbrev answer : Option (ℕ × ℕ) → Result (ℕ × ℕ) Refusal
  answer w = first_answer (first_phase w β (λ a b. (a, b)) form range)

  pub first-passed : (w : Option (ℕ × ℕ)) (a b : ℕ) → Ok (a, b) ≡ answer w → first_phase w β make form range ≡ passed (make a b)
  first-passed None a b e = absurd (let z : ◌≡◌ {A = ℕ} 0 1 = cc in omega arith)
  first-passed (Some (x, y)) a b e = by (in_bounds β x y) e
    where
      by : (t : Bool) → Ok (a, b) ≡ first_answer (choose t (passed (x, y)) (refused range 1)) → choose t (passed (make x y)) (refused range 1) ≡ passed (make a b)
      by true e =
          let (p, q) = ok_both e in
          rw (p, q)
      by false e = absurd (let z : ◌≡◌ {A = ℕ} 0 1 = cc in omega arith)

  pub first-refused : (w : Option (ℕ × ℕ)) (r : Refusal) → Err r ≡ answer w → (number : ℕ) × (line : ℕ) × (r ≡ refusal number line) × (first_phase w β make form range ≡ refused number line)
  first-refused None r e = (form, 1, cc, refl)
  first-refused (Some (x, y)) r e = by (in_bounds β x y) e
    where
      by : (t : Bool) → Err r ≡ first_answer (choose t (passed (x, y)) (refused range 1)) →
          (number : ℕ) × (line : ℕ) × (r ≡ refusal number line) × (choose t (passed (make x y)) (refused range 1) ≡ refused number line)
      by true e = absurd (let z : ◌≡◌ {A = ℕ} 0 1 = cc in omega arith)
      by false e = (range, 1, cc, refl)

-- A KIND of first line: its word, and the bounds of its numbers
pub record Kind : Type 1 where
  pub word : List ℕ
  pub bounds : Bounds
  pub Right : ℕ → ℕ → Type 0
  pub whole : no_zero word ≡ true
  pub within : (a b : ℕ) → Right a b → WithinBounds bounds a b
  pub right : (a b : ℕ) → WithinBounds bounds a b → Right a b

module _ (K : Kind) (s : List ℕ) {A : Type 0} (make : ℕ → ℕ → A) (form range : ℕ) where
  abbrev phase : Phase A
  phase = first_phase (word_and_pair s K.word) K.bounds make form range

  -- what is so of a line of another form, of numbers out of bounds and of numbers within them is so of the phase
  pub line-outcome :
      (P : Phase A → Type 0) → (NoFirst s K.word → P (refused form 1)) →
      ((a b : ℕ) → a < 1000 → b < 1000 → s ≡ numbers_line K.word (a ∷ b ∷ []) ++ drop (length K.word + 7) s → (K.Right a b → ⊥) → P (refused range 1)) →
      ((a b : ℕ) → a < 1000 → b < 1000 → s ≡ numbers_line K.word (a ∷ b ∷ []) ++ drop (length K.word + 7) s → K.Right a b → P (passed (make a b))) → P phase
  line-outcome P none out in-range =
      first-outcome s K.word (λ w. P (first_phase w K.bounds make form range)) K.whole none
      (λ a b ha hb e. by a b ha hb e (in_bounds K.bounds a b) refl)
    where
      by : (a b : ℕ) → a < 1000 → b < 1000 → s ≡ numbers_line K.word (a ∷ b ∷ []) ++ drop (length K.word + 7) s → (t : Bool) → in_bounds K.bounds a b ≡ t →
          P (choose t (passed (make a b)) (refused range 1))
      by a b ha hb e true h = in-range a b ha hb e (K.right a b (between_is a b h))
      by a b ha hb e false h = out a b ha hb e (λ r. true≢false (sym (between-of a b (K.within a b r)) ∙ h))

  -- The other way round

  pub line-form : NoFirst s K.word → phase ≡ refused form 1
  line-form none = line-outcome (λ p. p ≡ refused form 1) (λ _. refl) (λ a b ha hb e out. absurd (none a b _ ha hb e)) (λ a b ha hb e h. absurd (none a b _ ha hb e))

  module _ (a b : ℕ) (rest : List ℕ) (ha : a < 1000) (hb : b < 1000) (e : s ≡ numbers_line K.word (a ∷ b ∷ []) ++ rest) where
    read : (t : Bool) → in_bounds K.bounds a b ≡ t → phase ≡ choose t (passed (make a b)) (refused range 1)
    read t h = simp (first-pair s K.word a b rest ha hb e, h)

    pub line-right : K.Right a b → phase ≡ passed (make a b)
    line-right r = read true (between-of a b (K.within a b r))

    pub line-range : (K.Right a b → ⊥) → phase ≡ refused range 1
    line-range out = by (in_bounds K.bounds a b) refl
      where
        by : (t : Bool) → in_bounds K.bounds a b ≡ t → phase ≡ refused range 1
        by true h = absurd (out (K.right a b (between_is a b h)))
        by false h = read false h
