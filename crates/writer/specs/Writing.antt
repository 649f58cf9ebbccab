-- What is written of a sheet, which cells of an automaton are, and with which letters.
use Rattle.std.specs.Prelude.{ℕ, ◌≡◌, List, [], length, take}
use Rattle.automaton.specs.Automaton.{Automaton, graph_of}
use Rattle.format.specs.Format.{Withdrawal, Sheet, NamesRight, WithdrawalsRight}
use Rattle.format.specs.Numbers.{numbers}
use Rattle.format.specs.Withdrawals.{EdgesInForce}
use Rattle.format.specs.Written.{written}

-- an automaton with its 128 successor sets and 128 sets of marked successors alone: cells behind them are zero in one that fits
abbrev pub trimmed : Automaton → Automaton
trimmed A = record {
  edition = A.edition;
  n = A.n;
  k = A.k;
  initial = A.initial;
  recurring = A.recurring;
  table = take 128 A.table;
  marks = take 128 A.marks;
}

-- what is written of a sheet
abbrev pub writing : Sheet → List ℕ
writing σ = written (numbers σ) σ.names σ.withdrawals

-- the letters that numbers are written with answer yes to 5, 6, 15 and 16
pub record LettersRight (A : Automaton) (xs : List (List ℕ)) (ws : List Withdrawal) : Type 0 where
  pub names : NamesRight [] xs
  pub all-names : length xs ≡ A.k
  pub withdrawals : WithdrawalsRight A.k 0 ws
  pub in-force : EdgesInForce (graph_of A) ws
