-- The name lines of a plan: the phase that reads them passes or refuses as Plan says, by induction along the lines. Assumes nothing.
use Prim.Native.Nat.{ℕ, zero, suc, ◌+◌, ◌≤◌, ◌<◌}
use Rattle.std.specs.Prelude.{◌≡◌, Bool, Err, None, Ok, Option, Result, Some}
use Rattle.std.proofs.Math.Path.{refl, ap}
use Rattle.std.proofs.Common.{◌∙◌, zero-add}
use Rattle.std.proofs.Math.Bool.{true, false}
use mathlib.Core.List.{List, [], ◌∷◌, ◌++◌, map, append_assoc, append-nil}
use Rattle.std.proofs.Math.ListN.{length, drop, length-map}
use Rattle.std.proofs.Math.Dec.{ltb}
use borrow.Author.Tests.{lt-ltb, le-ltb, ltb-true, ltb-false}
use native.Mathlib.Omega.{arith}
use Rattle.std.proofs.Math.Decide.{dec_lt}
use Rattle.std.proofs.Math.Nat.{add-zero, suc-add}
use Rattle.text.specs.Bytes.{lf, stretch}
use Rattle.text.specs.BytesLaws.{stretch-is, stretch-rest}
use Rattle.lists.specs.Choice.{choose}
use Rattle.text.specs.WordLaws.{goes_on}
use Rattle.names.specs.Name.{IsName, compose}
use Rattle.names.specs.Scan.{name_end_at, with_ending}
use Rattle.names.specs.ScanLaws.{NameAt, name-is, name-ends, no_name}
use Rattle.superseding.specs.Superseding.{final_letter}
use Rattle.format.specs.Format.{Sheet, NamesRight, WithdrawalsRight}
use Rattle.format.specs.Withdrawals.{superseding_of}
use Rattle.format.specs.StandsFor.{StandsFor}
use Rattle.frame.specs.Phase.{Phase, refused, passed}
use Rattle.name_rows.specs.Rows.{letter_of}
use Rattle.plan_lines.specs.PlanLines.{plan_lines, Known, none, more, PlanNameFault, wrong_name, unknown-name}
use Rattle.plan_lines.specs.declared.NotALetter.{NotALetter}
use Rattle.plan_lines.specs.declared.NotALetter.TheVariants.{Unknown, Bad}
use Rattle.plan_lines.specs.LetterLines.{Lettered, letter_from, letter_line_at, with_letter, letters_at}
use Rattle.plan_lines.specs.KnownLaws.{found-stands, found_none, named-found, stands-found}

-- THE PHASE, after some letters: the names of the lines that it read, and their letters
pub record LettersPassed (σ : Sheet) (p : List ℕ) (line at : ℕ) (before : List ℕ) (todo : ℕ) (y : Lettered) : Type 0 where
  pub names : List (List ℕ)
  pub letters : List ℕ
  pub known : Known σ names letters
  pub count : length names ≡ todo
  pub text : drop at p ≡ plan_lines names ++ drop y.at p
  pub next : y.line ≡ line + length names
  pub are : y.letters ≡ before ++ letters

pub record LettersRefused (σ : Sheet) (p : List ℕ) (line at todo number at-line : ℕ) : Type 0 where
  pub names : List (List ℕ)
  pub letters : List ℕ
  pub rest : List ℕ
  pub known : Known σ names letters
  pub count : length names < todo
  pub text : drop at p ≡ plan_lines names ++ rest
  pub here : at-line ≡ line + length names
  pub fault : PlanNameFault σ rest number

abbrev pub LettersOutcome : Sheet → List ℕ → ℕ → ℕ → List ℕ → ℕ → Phase Lettered → Type 0
LettersOutcome σ p line at before todo (refused number at-line) = LettersRefused σ p line at todo number at-line
LettersOutcome σ p line at before todo (passed y) = LettersPassed σ p line at before todo y

module _ (σ : Sheet) (p : List ℕ) (line at : ℕ) (before : List ℕ) (todo e l : ℕ) (h : NameAt p at e) (known : StandsFor σ (stretch p at e) l) where
  -- a line more in front
  letters-step : (w : Phase Lettered) → LettersOutcome σ p (line + 1) (e + 1) (before ++ (l ∷ [])) todo w → LettersOutcome σ p line at before (suc todo) w
  unfolding plan_lines
  letters-step (passed y) g = record {
    names = stretch p at e ∷ g.names;
    letters = l ∷ g.letters;
    known = more known g.known;
    count = ap suc g.count;
    text = h.line ∙ rw g.text (simp append_assoc);
    next = omega (arith, g.next);
    are = rw append_assoc at g.are;
  }
  letters-step (refused number at-line) g = record {
    names = stretch p at e ∷ g.names;
    letters = l ∷ g.letters;
    rest = g.rest;
    known = more known g.known;
    count = omega (arith, g.count);
    text = h.line ∙ rw g.text (simp append_assoc);
    here = omega (arith, g.here);
    fault = g.fault;
  }

module _ (σ : Sheet) (all : length σ.names ≡ σ.k) (few : σ.k ≤ 8) (withdrawals : WithdrawalsRight σ.k 0 σ.withdrawals) where
  abbrev composed : List (List ℕ)
  composed = map compose σ.names

  abbrev cells : List ℕ
  cells = superseding_of σ.withdrawals

  -- ONE LINE
  abbrev LineOutcome : List ℕ → ℕ → Result (ℕ × ℕ) NotALetter → Type 0
  LineOutcome p at (Ok (l, e)) = NameAt p at e × StandsFor σ (stretch p at e) l
  LineOutcome p at (Err Unknown) = PlanNameFault σ (drop at p) 14
  LineOutcome p at (Err Bad) = PlanNameFault σ (drop at p) 12

  line-outcome : (p : List ℕ) (at : ℕ) → LineOutcome p at (letter_line_at composed cells p at)
  unfolding letter_line_at
  line-outcome p at = by (name_end_at p at) refl
    where
      tell : (e : ℕ) → NameAt p at e → (t : Bool) → ltb (letter_from composed p at e) (length composed) ≡ t
          → LineOutcome p at (choose t (Ok (final_letter cells (letter_from composed p at e), e)) (Err Unknown))
      tell e h true q = (h, found-stands σ all (stretch p at e) few withdrawals h.name (ltb-true (letter_from composed p at e) (length composed) q))
      tell e h false q =
          let n = ltb-false (letter_from composed p at e) (length composed) q in
          unknown-name (stretch p at e) (drop (e + 1) p) h.name h.line (found_none σ all (stretch p at e) (λ k. omega arith))

      by : (w : Option ℕ) → name_end_at p at ≡ w
          → LineOutcome p at (with_ending w (λ e. choose (ltb (letter_from composed p at e) (length composed)) (Ok (final_letter cells (letter_from composed p at e), e)) (Err Unknown)) (Err Bad))
      by (Some e) q = tell e (name-is p at e q) (ltb (letter_from composed p at e) (length composed)) refl
      by None q = wrong_name (λ x after is t. no_name p x after at q is t)

  -- THE PHASE
  pub letters-outcome : (p : List ℕ) (todo line at : ℕ) (before : List ℕ) → LettersOutcome σ p line at before todo (letters_at composed cells p line at before todo)
  unfolding letters_at plan_lines
  letters-outcome p zero line at before =
      record { names = []; letters = []; known = none; count = refl; text = refl; next = omega arith; are = rw append-nil }
  letters-outcome p (suc todo) line at before =
      by (letter_line_at composed cells p at) (line-outcome p at) (λ l e. letters-outcome p todo (line + 1) (e + 1) (before ++ (l ∷ [])))
    where
      go : ℕ → ℕ → Phase Lettered
      go l e = letters_at composed cells p (line + 1) (e + 1) (before ++ (l ∷ [])) todo

      -- nothing of the phase is read yet
      at_once : {number : ℕ} → PlanNameFault σ (drop at p) number → LettersRefused σ p line at (suc todo) number line
      at_once f = record { names = []; letters = []; rest = drop at p; known = none; count = omega arith; text = refl; here = omega arith; fault = f }

      by : (w : Result (ℕ × ℕ) NotALetter) → LineOutcome p at w → ((l e : ℕ) → LettersOutcome σ p (line + 1) (e + 1) (before ++ (l ∷ [])) todo (go l e))
          → LettersOutcome σ p line at before (suc todo) (with_letter w go (refused 14 line) (refused 12 line))
      by (Ok (l, e)) (h, s) ih = letters-step σ p line at before todo e l h s (go l e) (ih l e)
      by (Err Unknown) f ih = at_once f
      by (Err Bad) f ih = at_once f

  -- The other way round: along lines that are right the phase goes on, and at a fault it refuses

  module _ (p : List ℕ) (line at : ℕ) (before : List ℕ) (todo : ℕ) where
    line_read : (x rest : List ℕ) → IsName x → drop at p ≡ x ++ (lf ∷ rest)
        → letter_line_at composed cells p at
        ≡ choose (ltb (letter_of composed (compose x)) (length composed)) (Ok (final_letter cells (letter_of composed (compose x)), at + length x)) (Err Unknown)
    unfolding letter_line_at
    line_read x rest is e =
        let w = name-ends p x rest at is e in
        let s = stretch-is p at x (lf ∷ rest) e in
        simp (w, s)

    line-none : ((x after : List ℕ) → IsName x → drop at p ≡ x ++ (lf ∷ after) → ⊥) → letter_line_at composed cells p at ≡ Err Bad
    unfolding letter_line_at
    line-none f = by (name_end_at p at) refl
      where
        by : (w : Option ℕ) → name_end_at p at ≡ w
            → with_ending {A = Result (ℕ × ℕ) NotALetter} w (λ e. choose (ltb (letter_from composed p at e) (length composed)) (Ok (final_letter cells (letter_from composed p at e), e)) (Err Unknown)) (Err Bad) ≡ Err Bad
        by (Some e) q = let h = name-is p at e q in absurd (f (stretch p at e) (drop (e + 1) p) h.name h.line)
        by None q = refl

    line-unknown : (x after : List ℕ) → IsName x → drop at p ≡ x ++ (lf ∷ after) → ((l : ℕ) → StandsFor σ x l → ⊥) → letter_line_at composed cells p at ≡ Err Unknown
    line-unknown x after is e f =
        let n : length composed ≤ letter_of composed (compose x) = by (dec_lt (letter_of composed (compose x)) (length composed)) in
        line_read x after is e ∙ simp (le-ltb (letter_of composed (compose x)) (length composed) n)
      where
        by : Dec (letter_of composed (compose x) < length composed) → length composed ≤ letter_of composed (compose x)
        by (yes l) = absurd (f (final_letter cells (letter_of composed (compose x))) (found-stands σ all x few withdrawals is l))
        by (no l) = omega arith

    pub letters-fault : {number : ℕ} → PlanNameFault σ (drop at p) number → letters_at composed cells p line at before (suc todo) ≡ refused number line
    unfolding letters_at
    letters-fault (wrong_name f) = simp (line-none f)
    letters-fault (unknown-name x after is e f) = simp (line-unknown x after is e f)

    letter-next : NamesRight [] σ.names → (x rest : List ℕ) (l : ℕ) → StandsFor σ x l → drop at p ≡ x ++ (lf ∷ rest)
        → letters_at composed cells p line at before (suc todo) ≡ letters_at composed cells p (line + 1) (at + length x + 1) (before ++ (l ∷ [])) todo
    unfolding letters_at
    letter-next right x rest l s e =
        let named = named-found σ all x right l s in
        let m = s.letter in
        let b : letter_of composed (compose x) < length composed = omega (arith, length-map σ.names compose) in
        let n : letter_line_at composed cells p at ≡ Ok (l, at + length x) =
        line_read x rest s.is_name e
        ∙ simp (lt-ltb (letter_of composed (compose x)) (length composed) b, stands-found σ all x few withdrawals right l s) in
        simp n

  -- where the phase stands behind the lines of some names
  pub letters-along : NamesRight [] σ.names → (p rest : List ℕ) {names : List (List ℕ)} {letters : List ℕ} (todo line at : ℕ) (before : List ℕ)
      → Known σ names letters → drop at p ≡ plan_lines names ++ rest
      → (behind : ℕ) × (drop behind p ≡ rest)
      × (letters_at composed cells p line at before (length names + todo) ≡ letters_at composed cells p (line + length names) behind (before ++ letters) todo)
  unfolding plan_lines
  letters-along right p rest todo line at before none e = (at, e, simp (zero-add, add-zero, append-nil))
  letters-along right p rest todo line at before (more {x} {l} {xs} {ls} s k) e =
      let e1 : drop at p ≡ x ++ (lf ∷ (plan_lines xs ++ rest)) = e ∙ simp append_assoc in
      let e2 : drop (at + length x + 1) p ≡ plan_lines xs ++ rest = (goes_on p (at + length x) lf (plan_lines xs ++ rest) (stretch-rest p at x (lf ∷ (plan_lines xs ++ rest)) e1)).1 in
      let (behind, text, goes) = letters-along right p rest todo (line + 1) (at + length x + 1) (before ++ (l ∷ [])) k e2 in
      let n : line + 1 + length xs ≡ line + suc (length xs) = omega arith in
      let a : (before ++ (l ∷ [])) ++ ls ≡ before ++ (l ∷ ls) = append_assoc before (l ∷ []) ls in
      (behind, text, rw suc-add (letter-next p line at before (length xs + todo) right x (plan_lines xs ++ rest) l s e1 ∙ (goes ∙ rw (n, a))))
