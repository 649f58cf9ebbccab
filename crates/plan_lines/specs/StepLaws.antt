-- One step of each definition that the code goes along. Assumes nothing.
use Rattle.std.specs.Prelude.{ℕ, ◌+◌, ◌-◌, ◌*◌, ◌≤◌, ◌<◌, ◌≡◌, List, [], ◌∷◌, ◌++◌, length, take, drop, set, Err, None, Ok, Result, Some}
use Rattle.std.proofs.Common.{sym, ◌∙◌, ap, take-suc-set, drop-set-lt, drop-drop, arith, sub-eq-zero_of_le, add-one}
use borrow.Author.Tests.{lt-ltb, le-ltb}
use Rattle.lists.specs.LeftLaws.{left-more}
use Rattle.names.specs.Scan.{name_end_at}
use Rattle.frame.specs.Phase.{refused, passed}
use Rattle.name_rows.specs.Rows.{HoldNames, OnlyRow}
use Rattle.superseding.specs.Superseding.{superseding_in, final_letter}
use Rattle.superseding.specs.SupersedingLaws.{cells-behind}
use Rattle.plan_lines.specs.declared.NotALetter.{NotALetter}
use Rattle.plan_lines.specs.declared.NotALetter.TheVariants.{Unknown, Bad}
use Rattle.plan_lines.specs.LetterLines.{lettered, letter_from, letter_line_at, with_letter, letters_at}

-- ONE LINE
module _ (names : List (List ℕ)) (cells p : List ℕ) (at : ℕ) where
  pub line-bad : name_end_at p at ≡ None → letter_line_at names cells p at ≡ Err Bad
  unfolding letter_line_at
  line-bad e = simp e

  module _ (e l : ℕ) (end : name_end_at p at ≡ Some e) (letter : letter_from names p at e ≡ l) where
    pub line_known : {r : ℕ} → final_letter cells l ≡ r → l < length names → letter_line_at names cells p at ≡ Ok (r, e)
    unfolding letter_line_at
    line_known f h = simp (end, letter, lt-ltb l (length names) h, f)

    pub line-unknown : length names ≤ l → letter_line_at names cells p at ≡ Err Unknown
    unfolding letter_line_at
    line-unknown h = simp (end, letter, le-ltb l (length names) h)

-- THE NAME LINES: i of `count` are read
module _ (names : List (List ℕ)) (cells p : List ℕ) (line at i count : ℕ) (letters : List ℕ) where
  pub letters-step : {w : Result (ℕ × ℕ) NotALetter} → i < count → letter_line_at names cells p at ≡ w
      → letters_at names cells p line at letters (count - i)
      ≡ with_letter w (λ l e. letters_at names cells p (line + 1) (e + 1) (letters ++ (l ∷ [])) (count - (i + 1))) (refused 14 line) (refused 12 line)
  unfolding letters_at
  letters-step h e = rw (left-more h) (simp e)

  pub letters-done : count ≤ i → letters_at names cells p line at letters (count - i) ≡ passed (lettered letters at line)
  unfolding letters_at
  letters-done h = rw (sub-eq-zero_of_le h)

-- where the reader of `count` lines stands: i letters are in the buffer, and what is left to do is left of the whole
abbrev pub SoFar : List ℕ → List ℕ → ℕ → ℕ → List ℕ → List ℕ → ℕ → ℕ → ℕ → Type 0
SoFar p first k count rows letters line at i =
    (names : List (List ℕ)) → length names ≡ k → HoldNames names first
    → HoldNames names rows
    × (letters_at names (superseding_in first) p line at (take i letters) (count - i) ≡ letters_at names (superseding_in first) p 2 11 [] count)

-- a name in row k leaves the superseding letters
pub superseding-still : {k : ℕ} {old new : List ℕ} → k ≤ 8 → OnlyRow k old new → superseding_in new ≡ superseding_in old
superseding-still {k} {old} {new} few only = cells-behind (24 * (k + 1)) old new (omega arith) only.behind

-- a letter more in the buffer
module _ (letters : List ℕ) (i l : ℕ) (h : i < length letters) where
  pub letter-stored : take (i + 1) (set letters i l) ≡ take i letters ++ (l ∷ [])
  letter-stored = rw add-one (take-suc-set letters i l h)

  pub letter-behind : (first : List ℕ) → drop i letters ≡ drop i first → drop (i + 1) (set letters i l) ≡ drop (i + 1) first
  letter-behind first e = drop-set-lt (i + 1) letters i l (omega arith) ∙ (sym (drop-drop 1 i letters) ∙ (ap (drop 1) e ∙ drop-drop 1 i first))
