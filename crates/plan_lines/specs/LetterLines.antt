-- The name lines of a plan file, read from the top: questions 12 and 14 in the order in which a reader asks them. The sheet's names are
-- given composed, its superseding letters as cells. That this is what PlanLines describes is a theorem. A byte past the end is 0, and 0 stands in no line.
use Rattle.std.specs.Prelude.{ℕ, zero, suc, ◌+◌, ◌≤◌, ◌<◌, ◌≡◌, List, [], ◌∷◌, ◌++◌, length, drop, ltb, Err, Ok, Result}
use Rattle.gate.specs.declared.Refusal.{Refusal}
use Rattle.frame.specs.declared.Position.{Position}
use Rattle.gate.specs.Gate.{refusal, cleared}
use Rattle.lists.specs.Choice.{choose}
use Rattle.text.specs.Bytes.{stretch}
use Rattle.names.specs.Name.{compose}
use Rattle.names.specs.Scan.{name_end_at, with_ending}
use Rattle.frame.specs.Phase.{Phase, refused, passed}
use Rattle.name_rows.specs.Rows.{letter_of}
use Rattle.superseding.specs.Superseding.{final_letter}
use Rattle.plan_lines.specs.declared.NotALetter.{NotALetter}
use Rattle.plan_lines.specs.declared.NotALetter.TheVariants.{Unknown, Bad}

-- what the name lines give: the letters that finally stand for the names, and the next line's position and number
pub record Lettered : Type 0 where
  pub letters : List ℕ
  pub at : ℕ
  pub line : ℕ

-- letters, and where the next line stands
abbrev pub lettered : List ℕ → ℕ → ℕ → Lettered
lettered letters at line = record { letters = letters; at = at; line = line }

-- the letter of the name from `at` to e; the count of letters where it is no letter's name
abbrev pub letter_from : List (List ℕ) → List ℕ → ℕ → ℕ → ℕ
letter_from names p at e = letter_of names (compose (stretch p at e))

-- a line with a name: the letter that finally stands for it, and where its LF stands
-- "Is each plan line of its form? No: 12. .. Is each name known? No: 14."
unfoldable pub letter_line_at : List (List ℕ) → List ℕ → List ℕ → ℕ → Result (ℕ × ℕ) NotALetter
letter_line_at names cells p at =
    with_ending (name_end_at p at)
    (λ e. choose (ltb (letter_from names p at e) (length names)) (Ok (final_letter cells (letter_from names p at e), e)) (Err Unknown))
    (Err Bad)

-- what to do with a letter that was read, with an unknown name, and where there is no name
abbrev pub with_letter : {A : Type 0} → Result (ℕ × ℕ) NotALetter → (ℕ → ℕ → A) → A → A → A
with_letter (Ok (l, e)) go unknown bad = go l e
with_letter (Err Unknown) go unknown bad = unknown
with_letter (Err Bad) go unknown bad = bad

-- `todo` name lines, the first of which is line `line` and stands at `at`, after those of `letters`
unfoldable pub letters_at : List (List ℕ) → List ℕ → List ℕ → ℕ → ℕ → List ℕ → ℕ → Phase Lettered
letters_at names cells p line at letters zero = passed (lettered letters at line)
letters_at names cells p line at letters (suc todo) =
    with_letter (letter_line_at names cells p at) (λ l e. letters_at names cells p (line + 1) (e + 1) (letters ++ (l ∷ [])) todo) (refused 14 line) (refused 12 line)

-- a line that is read is one of eight letters, and its LF stands within so many bytes
abbrev pub LineFits : ℕ → Result (ℕ × ℕ) NotALetter → Type 0
LineFits n (Ok (l, e)) = (l < 8) × (e < n)
LineFits n (Err why) = Unit

-- where the line after the name lines stands
abbrev pub PlaceFits : Result Position Refusal → Type 0
PlaceFits (Err r) = Unit
PlaceFits (Ok z) = (z.at ≤ 12288) × (z.line ≤ 402)

-- the answer of `count` name lines, and the buffer, which was t and is u then: all zero, or the letters, and behind them what was there
abbrev pub LettersRead : Phase Lettered → ℕ → List ℕ → List ℕ → Result Position Refusal → Type 0
LettersRead (refused number line) count t u r = (r ≡ Err (refusal number line)) × (u ≡ cleared t)
LettersRead (passed y) count t u r = (r ≡ Ok (record { at = y.at; line = y.line })) × (u ≡ y.letters ++ drop count t)
