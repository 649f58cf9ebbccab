-- The answer on the letters from that on the whole file. Assumes nothing.
use Rattle.std.specs.Prelude.{ℕ, List, Err, Ok, Result}
use Rattle.gate.specs.declared.Refusal.{Refusal}
use Rattle.automaton.specs.declared.Numbers.{Numbers}
use Rattle.automaton.specs.Automaton.{TransitionSets}
use Rattle.parser.specs.Parse.{parse}
use Rattle.parser.specs.PhaseAnswers.{FileRead}
use Rattle.parser.proofs.LettersOfLaws.{file-refused, read-accepted}
use Rattle.letters.specs.Answers.{RowsRead}

pub letters-read : (s : List ℕ) (t u : TransitionSets) (old rows : List ℕ) (r : Result Numbers Refusal) → FileRead (parse s) t u old rows r → RowsRead s old rows r
letters-read s t u old rows (Err r) e = let (refuses, sets, zero) = file-refused s t u old rows r e in (refuses, zero)
letters-read s t u old rows (Ok a) e = let f = read-accepted s t u old rows a e in (f.letters, f.behind)
