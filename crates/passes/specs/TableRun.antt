-- Document 01, "The verdict", on a tracker's tables: the run of an endless word by tuple numbers. Nothing is asked of the tables but
-- next numbers and colours of the tuples counted.
use Rattle.std.specs.Prelude.{ℕ, zero, suc, ◌+◌, ◌*◌, ◌≤◌, ◌<◌, ◌≡◌, List, length, get_or, take, drop}
use Rattle.passes.specs.Letter.{letter_at}
use Rattle.tuple_record.specs.Record.{colour_in}
use Rattle.filling.specs.TrackerTables.{tracker_tables, EnoughForTracker}
use Rattle.passes.specs.declared.Pass.{Pass}
use Rattle.passes.specs.declared.Verdict.{Verdict}
use Rattle.passes.specs.Passes.{FirstRepeat, LeastOf, AnswerIs}

-- every cell is below m
abbrev pub AllBelow : List ℕ → ℕ → Type 0
AllBelow cells m = (i : ℕ) → get_or cells i 0 < m

-- what judging asks of the tables of `count` tuples: that they are there, and every next number is one of theirs
pub record TablesFit (tuples nexts : List ℕ) (count : ℕ) : Type 0 where
  pub room : EnoughForTracker count (tracker_tables tuples nexts)
  pub numbers : AllBelow nexts count

-- and of the letters: the lead-in's, then the cycle's, each one of 8
pub record LettersFit (letters : List ℕ) (lead cycle : ℕ) : Type 0 where
  pub lead-most : lead ≤ 200
  pub cycle-some : 1 ≤ cycle
  pub cycle-most : cycle ≤ 200
  pub all : lead + cycle ≤ length letters
  pub below : AllBelow letters 8

-- the endless word of these letters
abbrev pub word_of : List ℕ → ℕ → ℕ → ℕ → ℕ
word_of letters lead cycle = letter_at (take lead letters) (take cycle (drop lead letters))

-- "its next on letter l is number 8t+l": the number reached from number `at` on the first t letters of w
unfoldable pub reached : List ℕ → ℕ → (ℕ → ℕ) → ℕ → ℕ
reached nexts at w zero = at
reached nexts at w (suc t) = get_or nexts (8 * reached nexts at w t + w t) 0

-- the colour entered on letter t
abbrev pub entered_in : List ℕ → List ℕ → ℕ → (ℕ → ℕ) → ℕ → ℕ
entered_in tuples nexts at w t = colour_in tuples (reached nexts at w (suc t))

-- a pass of some letters, from number `at`: where it ends, and the least colour entered if there is a letter
pub record Passing (tuples nexts : List ℕ) (count at : ℕ) (w : ℕ → ℕ) (size : ℕ) (z : Pass) : Type 0 where
  pub end : z.at ≡ reached nexts at w size
  pub below : z.at < count
  pub least : 0 < size → LeastOf (entered_in tuples nexts at w) 0 size z.least

-- the number at the end of pass i, from tuple 0; the lead-in has m letters, the cycle c
abbrev pub end_number : List ℕ → (ℕ → ℕ) → ℕ → ℕ → ℕ → ℕ
end_number nexts w m c i = reached nexts 0 w (m + i * c)

-- THE VERDICT by numbers
pub record TableJudges (tuples nexts : List ℕ) (count : ℕ) (w : ℕ → ℕ) (m c : ℕ) (z : Verdict) : Type 0 where
  pub earlier : ℕ
  pub repeat : FirstRepeat (end_number nexts w m c) earlier z.passes
  pub least : LeastOf (entered_in tuples nexts 0 w) (m + earlier * c) (m + z.passes * c) z.least
  pub answer : AnswerIs z.least z.answer
  pub passes : z.passes ≤ count
