-- What reading the names of a sheet file answers.
use Rattle.std.specs.Prelude.{ℕ, ◌≡◌, List, Err, Ok, Result}
use Rattle.gate.specs.declared.Refusal.{Refusal}
use Rattle.automaton.specs.declared.Numbers.{Numbers}
use Rattle.gate.specs.Gate.{RefusedBy, cleared}
use Rattle.parser.specs.LettersOf.{LettersAlone}
use Rattle.format.specs.Format.{Faulty}

-- the answer of questions 2 to 9, 15 and 16 with the letters in rows, which were `old` and are `rows` then: all zero, or the letters, and everywhere else zeros
abbrev pub RowsRead : List ℕ → List ℕ → List ℕ → Result Numbers Refusal → Type 0
RowsRead s old rows (Err r) = RefusedBy (Faulty s) r × (rows ≡ cleared old)
RowsRead s old rows (Ok a) = LettersAlone s old rows a
