-- The end of writing from a file that is read, its successor sets and marks into tables of 128: the last question is asked. Assumes nothing.
use Rattle.std.specs.Prelude.{ℕ, ◌≡◌, List, Result}
use Rattle.gate.specs.declared.Refusal.{Refusal}
use Rattle.std.proofs.Common.{sym, ap, ◌∙◌, subst, append-nil}
use Rattle.gate.specs.Gate.{Put}
use Rattle.automaton.specs.declared.Numbers.{Numbers}
use Rattle.automaton.specs.Automaton.{Automaton, TransitionSets, automaton}
use Rattle.lent.specs.Lent.{WitnessTables, EnoughForWitness}
use Rattle.format.specs.Numbers.{numbers}
use Rattle.format.proofs.NumbersLaws.{sheet-fits, automaton-is}
use Rattle.parser.specs.Parse.{empty_sets}
use Rattle.parser.specs.LettersOf.{LettersIn}
use Rattle.reading.specs.Read.{ReadTables, read_tables, SheetRead}
use Rattle.writer.specs.Write.{write_tables}
use Rattle.writer.specs.TrimmedLaws.{sheet-long}
use Rattle.writer.specs.WriteLaws.{named-text, writable}
use Rattle.file_writer.specs.FileWrite.{Writes}
use Rattle.sheet_text.specs.Text.{rows_text, Writable}

module _ {s rows : List ℕ} {witness : WitnessTables} {after : ReadTables} {a : Numbers} (h : SheetRead s (read_tables empty_sets rows witness) after a) where
  is : automaton a after.sets.successors after.sets.marks ≡ numbers h.sheet
  is =
      automaton-is h.sheet h.are
      (ap (λ (t : TransitionSets). t.successors) h.sets ∙ append-nil (numbers h.sheet).table)
      (ap (λ (t : TransitionSets). t.marks) h.sets ∙ append-nil (numbers h.sheet).marks)

  pub write-asks : Writable (automaton a after.sets.successors after.sets.marks)
  write-asks = subst Writable (sym is) (writable (sheet-fits s h.sheet h.accepted.file) (sheet-long h.sheet))

  pub write-finishes : {output output' : List ℕ} {r : Result ℕ Refusal} → EnoughForWitness witness
      → Put (rows_text (automaton a after.sets.successors after.sets.marks) after.rows) output output' r → Writes s (write_tables witness output) (write_tables after.witness output') r
  write-finishes {output} {output'} {r} long put =
      let names : LettersIn h.sheet (numbers h.sheet).k after.rows = subst (λ (k : ℕ). LettersIn h.sheet k after.rows) h.are.k h.names in
      let few = (sheet-fits s h.sheet h.accepted.file).range.3 in
      let text = ap (λ (A : Automaton). rows_text A after.rows) is ∙ named-text (numbers h.sheet) few names in
      Writes.asked long h.sheet h.accepted h.witness (subst (λ (text : List ℕ). Put text output output' r) text put)
