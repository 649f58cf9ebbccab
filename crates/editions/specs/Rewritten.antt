-- Document 02, R-9: "a SHEET file rewritten with a mark on every transition into a must-recur state".
use Rattle.std.specs.Prelude.{ℕ, List, ◌++◌, map}
use Rattle.sets.specs.Sets.{bit}
use Rattle.automaton.specs.declared.Edition.TheVariants.{TransitionBased}
use Rattle.format.specs.Format.{State, Transition, Sheet, lines, end_line}
use Rattle.format.specs.Numbers.{numbers}

-- a transition with a mark where it leads into one of these states
abbrev pub marking : ℕ → Transition → Transition
marking recurring t = record { from = t.from; letter = t.letter; to = t.to; mark = bit recurring t.to }

-- a state without its must-recur flag, for which an SHT-2 has no place
abbrev pub unflagging : State → State
unflagging z = record { initial = z.initial; recurring = 0 }

-- the sheet rewritten, and its file
unfoldable pub rewritten : Sheet → Sheet
rewritten σ = record {
  edition = TransitionBased;
  n = σ.n;
  k = σ.k;
  names = σ.names;
  withdrawals = σ.withdrawals;
  states = map unflagging σ.states;
  transitions = map (marking (numbers σ).recurring) σ.transitions;
}

unfoldable pub rewritten_file : Sheet → List ℕ
rewritten_file σ = lines (rewritten σ) ++ end_line
