-- The withdrawal lines of a sheet file, read from the top: question 15.
-- That this is what Format describes is a theorem. A byte past the end is 0, and 0 stands in no line.
use Rattle.std.specs.Prelude.{ℕ, zero, suc, ◌+◌, ◌≤◌, ◌<◌, ◌≡◌, List, ◌&&◌, length, get_or, set, ltb, leb, eqb, Err, None, Ok, Option, Result, Some}
use Rattle.gate.specs.declared.Refusal.{Refusal}
use Rattle.frame.specs.declared.Position.{Position}
use Rattle.gate.specs.Gate.{refusal}
use Rattle.lists.specs.Choice.{choose}
use Rattle.columns.specs.Pair.{pair_at, with_pair}
use Rattle.superseding.specs.Superseding.{superseding_in, with_superseding}
use Rattle.format.specs.Format.{Withdrawal}
use Rattle.format.specs.Withdrawals.{withdrawn_by}
use Rattle.frame.specs.Phase.{Phase, refused, passed}

-- what the withdrawal lines give: the cells of the superseding letters, and the next line's position and number
pub record Superseded : Type 0 where
  pub cells : List ℕ
  pub at : ℕ
  pub line : ℕ

abbrev pub superseded : List ℕ → ℕ → ℕ → Superseded
superseded cells at line = record { cells = cells; at = at; line = line }

-- a letter not below `least` and a larger one, both below k
unfoldable pub withdrawal_of : ℕ → ℕ → ℕ → ℕ → Option (ℕ × ℕ)
withdrawal_of k least letter by = choose (leb least letter && (ltb letter by && ltb by k)) (Some (letter, by)) None

-- the line of a withdrawal, behind its W
unfoldable pub withdrawal_line_at : List ℕ → ℕ → ℕ → ℕ → Option (ℕ × ℕ)
withdrawal_line_at s at k least = with_pair (pair_at s (at + 1)) (λ letter by. withdrawal_of k least letter by) None

-- what to do with a withdrawal that was read, and what where there is none
abbrev pub with_withdrawal : {A : Type 0} → Option (ℕ × ℕ) → (Withdrawal → A) → A → A
with_withdrawal (Some (letter, by)) go bad = go (withdrawn_by letter by)
with_withdrawal None go bad = bad

-- one line; `go` says what comes after a withdrawal
-- "A line there that begins with W and is faulty is refused with 15"; any other line ends them
abbrev withdrawal_step : List ℕ → ℕ → ℕ → ℕ → ℕ → List ℕ → (Withdrawal → Phase Superseded) → Phase Superseded
withdrawal_step s k line at least cells go =
    choose (eqb (get_or s at 0) 87) (with_withdrawal (withdrawal_line_at s at k least) go (refused 15 line)) (passed (superseded cells at line))

-- the withdrawal lines: the cells of the superseding letters. `fuel` is more than there are lines
unfoldable pub withdrawals_at : List ℕ → ℕ → ℕ → ℕ → ℕ → List ℕ → ℕ → Phase Superseded
withdrawals_at s k line at least cells zero = passed (superseded cells at line)
withdrawals_at s k line at least cells (suc fuel) =
    withdrawal_step s k line at least cells (λ w. withdrawals_at s k (line + 1) (at + 8) (w.letter + 1) (set cells w.letter w.by) fuel)

-- a withdrawal that is read is of two of eight letters, neither below `least`
abbrev pub WithdrawalFits : ℕ → Option (ℕ × ℕ) → Type 0
WithdrawalFits least (Some (letter, by)) = (least ≤ letter) × (letter < by) × (by < 8)
WithdrawalFits least None = Unit

-- the answer of the withdrawal lines, and the rows, which were `old` and are `rows` then: with the superseding letters in their cells; a refusal
-- leaves some of them there, and nothing else is written
abbrev pub WithdrawalsRead : Phase Superseded → List ℕ → List ℕ → Result Position Refusal → Type 0
WithdrawalsRead (refused number line) old rows r = (r ≡ Err (refusal number line)) × (rows ≡ with_superseding old (superseding_in rows))
WithdrawalsRead (passed y) old rows r =
    (r ≡ Ok (record { at = y.at; line = y.line })) × (y.line ≤ 17) × (y.at ≤ 308) × (length y.cells ≡ 8) × (rows ≡ with_superseding old y.cells)
