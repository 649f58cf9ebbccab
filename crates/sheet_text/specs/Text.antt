-- The text of an automaton with its letters in rows: their names, and their superseding letters behind them.
use Rattle.std.specs.Prelude.{ℕ, ◌≤◌, List, ◌++◌, length}
use Rattle.automaton.specs.Automaton.{Automaton}
use Rattle.superseding.specs.Superseding.{superseding_in}
use Rattle.format.specs.Format.{Withdrawal, lines, end_line}
use Rattle.format.specs.Written.{sheet_of}
use Rattle.sheet_sections.specs.RowNames.{row_names}
use Rattle.sheet_sections.specs.RowWithdrawals.{withdrawals_of}

-- the text of an automaton with names that are composed, and withdrawals
unfoldable pub text_of : Automaton → List (List ℕ) → List Withdrawal → List ℕ
text_of A names ws = lines (sheet_of A names ws) ++ end_line

abbrev pub rows_text : Automaton → List ℕ → List ℕ
rows_text A rows = text_of A (row_names rows 0 A.k) (withdrawals_of (superseding_in rows) 0 A.k)

-- an automaton that has a text: its letters have rows, and its cells tables
pub record Writable (A : Automaton) : Type 0 where
  pub states : A.n ≤ 16
  pub letters : A.k ≤ 8
  pub table : 128 ≤ length A.table
  pub marks : 128 ≤ length A.marks
