-- A sheet file that is read: its numbers, and its letters in rows, their composed names and behind them their superseding letters.
use Rattle.std.specs.Prelude.{ℕ, ◌*◌, ◌≡◌, List, map, length, drop}
use Rattle.gate.specs.Gate.{cleared}
use Rattle.automaton.specs.declared.Numbers.{Numbers}
use Rattle.automaton.specs.Automaton.{AreNumbers}
use Rattle.automaton.specs.Graph.{InRange}
use Rattle.name_rows.specs.Rows.{HoldNames}
use Rattle.names.specs.Name.{compose}
use Rattle.superseding.specs.Superseding.{superseding_in, with_superseding}
use Rattle.format.specs.Format.{Sheet, WithdrawalsRight, FileIs}
use Rattle.format.specs.Numbers.{numbers}
use Rattle.format.specs.Withdrawals.{superseding_of}

-- the rows hold the composed names of the k letters of a sheet, and their superseding letters
pub record LettersIn (σ : Sheet) (k : ℕ) (rows : List ℕ) : Type 0 where
  pub letters : σ.k ≡ k
  pub all-names : length σ.names ≡ k
  pub holds : HoldNames (map compose σ.names) rows
  pub withdrawals : WithdrawalsRight σ.k 0 σ.withdrawals
  pub superseding : superseding_in rows ≡ superseding_of σ.withdrawals

-- and where the rows were `old`, everything behind the names but these is zero
abbrev pub BehindNames : Sheet → ℕ → List ℕ → List ℕ → Type 0
BehindNames σ k old rows = drop (24 * k) rows ≡ drop (24 * k) (with_superseding (cleared old) (superseding_of σ.withdrawals))

-- a sheet file that is read: its numbers, and its letters in rows
pub record LettersOf (s rows : List ℕ) (a : Numbers) : Type 0 where
  pub sheet : Sheet
  pub file : FileIs s sheet
  pub are : AreNumbers (numbers sheet) a
  pub range : InRange a.n a.k
  pub names : LettersIn sheet a.k rows

-- and everywhere else in the rows, which were `old`, zeros
abbrev pub LettersAlone : List ℕ → List ℕ → List ℕ → Numbers → Type 0
LettersAlone s old rows a = (h : LettersOf s rows a) × BehindNames h.sheet a.k old rows
