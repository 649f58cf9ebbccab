-- Composing a stretch of a file, one part at a time, and the stores of what it composes to. Assumes nothing.
use Rattle.std.specs.Prelude.{ℕ, suc, ◌+◌, ◌-◌, ◌<◌, ◌≤◌, ◌≡◌, true, List, ◌∷◌, set, ltb}
use Rattle.std.proofs.Common.{sym, ◌∙◌, add-zero}
use Rattle.std.proofs.Math.Path.{ap}
use Rattle.std.proofs.Math.Bool.{false, and-false, and-eq-true_iff}
use Rattle.std.proofs.Math.Logic.{⊎_elim}
use Rattle.std.proofs.Math.ListN.{length, get_or, get_or-eq_default}
use Rattle.std.proofs.lemmas.List.Edits.{sets}
use Rattle.std.proofs.Math.Dec.{eqb}
use borrow.Author.Tests.{ne_eqb, lt-ltb, le-ltb, eqb-true, ltb-false}
use native.Mathlib.Omega.{arith}
use Rattle.text.specs.Bytes.{stretch}
use Rattle.text.specs.BytesLaws.{stretch-none, stretch-cons, stretch-length, stretch-at}
use Rattle.lists.specs.ChoiceLaws.{lt-or-ge, neither}
use Rattle.names.specs.Name.{is_vowel, umlaut_of, compose}
use Rattle.names.specs.NameLaws.{diaeresis, compose-keep, compose-vowel}
use Rattle.name_rows.specs.Row.{diaeresis_at}

-- A STRETCH, one part at a time
module _ (s : List ℕ) (i e : ℕ) (l : i < e) (fits : e ≤ length s) where
  shows : diaeresis_at s i e ≡ diaeresis (get_or s i 0) (stretch s (i + 1) e)
  unfolding diaeresis_at
  shows =
      ⊎_elim
      (λ (short : e - i < 3).
      let len : length (stretch s (i + 1) e) ≤ 1 = omega (arith, stretch-length s (i + 1) e fits) in
      let z : get_or (stretch s (i + 1) e) 1 0 ≡ 0 = get_or-eq_default (stretch s (i + 1) e) 0 len in
      let f : eqb (get_or (stretch s (i + 1) e) 1 0) 0x88 ≡ false =
      ne_eqb (get_or (stretch s (i + 1) e) 1 0) 0x88 (λ (q : get_or (stretch s (i + 1) e) 1 0 ≡ 0x88). omega arith) in
      simp (lt-ltb (e - i) 3 short, f, and-false))
      (λ (long : 3 ≤ e - i).
      let b : get_or (stretch s (i + 1) e) 0 0 ≡ get_or s (i + 1) 0 =
      stretch-at s (i + 1) e 0 (omega arith) ∙ ap (λ (n : ℕ). get_or s n 0) (add-zero (i + 1)) in
      let k : i + 1 + 1 ≡ i + 2 = omega arith in
      let c : get_or (stretch s (i + 1) e) 1 0 ≡ get_or s (i + 2) 0 =
      stretch-at s (i + 1) e 1 (omega arith) ∙ ap (λ (n : ℕ). get_or s n 0) k in
      simp (le-ltb (e - i) 3 long, b, c))
      (lt-or-ge (e - i) 3)

  pub composed-one : diaeresis_at s i e ≡ false → compose (stretch s i e) ≡ get_or s i 0 ∷ compose (stretch s (i + 1) e)
  composed-one h = rw (stretch-cons s i e l fits) (compose-keep (get_or s i 0) (stretch s (i + 1) e) (sym shows ∙ h))

  -- what the test says, where it came out true
  tested :
      diaeresis_at s i e ≡ true → (i + 3 ≤ e) × (is_vowel (get_or s i 0) ≡ true) × (get_or s (i + 1) 0 ≡ 0xCC) × (get_or s (i + 2) 0 ≡ 0x88)
  unfolding diaeresis_at
  tested h =
      let a = neither (ltb (e - i) 3) _ h in
      let b = (and-eq-true_iff (is_vowel (get_or s i 0)) _).0 a.1 in
      let c = (and-eq-true_iff (eqb (get_or s (i + 1) 0) 0xCC) _).0 b.1 in
      (omega (arith, ltb-false (e - i) 3 a.0), b.0, eqb-true _ _ c.0, eqb-true _ _ c.1)

  pub composed-fits : diaeresis_at s i e ≡ true → i + 3 ≤ e
  composed-fits h = (tested h).0

  pub composed-two : diaeresis_at s i e ≡ true → compose (stretch s i e) ≡ 0xC3 ∷ umlaut_of (get_or s i 0) ∷ compose (stretch s (i + 3) e)
  composed-two h =
      let w = tested h in
      let fit : i + 3 ≤ e = w.0 in
      let k : i + 1 + 1 ≡ i + 2 = omega arith in
      let m : i + 2 + 1 ≡ i + 3 = omega arith in
      let two : stretch s (i + 1) e ≡ get_or s (i + 1) 0 ∷ stretch s (i + 2) e =
      stretch-cons s (i + 1) e (omega arith) fits ∙ rw k in
      let three : stretch s (i + 2) e ≡ get_or s (i + 2) 0 ∷ stretch s (i + 3) e =
      stretch-cons s (i + 2) e (omega arith) fits ∙ rw m in
      rw (stretch-cons s i e l fits, two, three, w.2, w.3) (compose-vowel (get_or s i 0) (stretch s (i + 3) e) w.1)

-- THE STORES of composed bytes, one part at a time
pub stored-none : (s out : List ℕ) (i e at : ℕ) → e ≤ i → (sets out at (compose (stretch s i e)) ≡ out) × (length (compose (stretch s i e)) ≡ 0)
unfolding compose
stored-none s out i e at h = (rw (stretch-none s i e h), rw (stretch-none s i e h))

module _ (s out : List ℕ) (i e at : ℕ) (l : i < e) (fits : e ≤ length s) where
  pub stored_one :
      diaeresis_at s i e ≡ false →
      sets out at (compose (stretch s i e)) ≡ sets (set out at (get_or s i 0)) (at + 1) (compose (stretch s (i + 1) e))
  stored_one h =
      let k : at + 1 ≡ suc at = omega arith in
      rw (composed-one s i e l fits h, k)

  pub stored-two :
      diaeresis_at s i e ≡ true →
      sets out at (compose (stretch s i e)) ≡
      sets (set (set out at 0xC3) (at + 1) (umlaut_of (get_or s i 0))) (at + 2) (compose (stretch s (i + 3) e))
  stored-two h =
      let k : at + 1 ≡ suc at = omega arith in
      let m : at + 2 ≡ suc (suc at) = omega arith in
      rw (composed-two s i e l fits h, k, m)
