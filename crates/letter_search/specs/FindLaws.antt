-- The end of the search for a name in a sheet that is read: question 14 is asked. Assumes nothing.
use Rattle.std.specs.Prelude.{List, ℕ, Result}
use Rattle.gate.specs.declared.Refusal.{Refusal}
use Rattle.automaton.specs.declared.Numbers.{Numbers}
use Rattle.lent.specs.Lent.{EnoughForWitness}
use Rattle.format.specs.Format.{Sheet}
use Rattle.parser.specs.LettersOf.{LettersIn}
use Rattle.reading.specs.Read.{ReadTables, SheetRead}
use Rattle.letter_search.specs.Find.{LetterOf, Finds}

module _ {s : List ℕ} {before after : ReadTables} {a : Numbers} (h : SheetRead s before after a) where
  pub find-asks : {name : List ℕ} {r : Result ℕ Refusal} → EnoughForWitness before.witness → ((σ : Sheet) → LettersIn σ a.k after.rows → LetterOf σ name r)
      → Finds s name before.witness after.witness r
  find-asks long letter = Finds.asked long h.sheet h.accepted h.witness (letter h.sheet h.names)
