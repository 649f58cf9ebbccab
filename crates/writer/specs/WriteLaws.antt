-- The end of writing from numbers behind question 1: the last question is asked with the letters that the rows hold. Assumes nothing.
use Rattle.std.specs.Prelude.{ℕ, ◌≤◌, ◌≡◌, List, map, Ok, Result}
use Rattle.gate.specs.declared.Refusal.{Refusal}
use Rattle.std.proofs.Common.{ap₂, ◌∙◌, subst, arith}
use Rattle.std.proofs.lemmas.List.{length-map}
use Rattle.gate.specs.Gate.{Put}
use Rattle.names.specs.Name.{compose}
use Rattle.automaton.specs.Automaton.{Automaton, sets_of_automaton, Fits}
use Rattle.lent.specs.Lent.{EnoughForSets, EnoughForSheet}
use Rattle.format.specs.Format.{Sheet, WithdrawalsRight}
use Rattle.format.specs.Written.{written}
use Rattle.parser.specs.LettersOf.{LettersIn}
use Rattle.named_numbers.specs.Ask.{Asks}
use Rattle.sheet_text.specs.Text.{text_of, rows_text, Writable}
use Rattle.sheet_text.specs.TextLaws.{text-written}
use Rattle.sheet_sections.specs.RowNames.{row_names}
use Rattle.sheet_sections.specs.RowNamesLaws.{rows-hold}
use Rattle.sheet_sections.specs.RowWithdrawalsLaws.{rows-withdraw}
use Rattle.writer.specs.Write.{WriteTables, WritesNumbers}

-- the text with the letters in rows is that with the names and the withdrawals of their sheet
pub named-text : (A : Automaton) → A.k ≤ 8 → {σ : Sheet} {rows : List ℕ} → LettersIn σ A.k rows → rows_text A rows ≡ written A σ.names σ.withdrawals
named-text A few {σ} {rows} h = ap₂ (text_of A) names (rows-withdraw σ.withdrawals rows A.k few right h.superseding) ∙ text-written A σ.names σ.withdrawals
  where
    names : row_names rows 0 A.k ≡ map compose σ.names
    names = rows-hold (map compose σ.names) rows A.k (length-map σ.names compose ∙ h.all-names) h.holds

    right : WithdrawalsRight A.k 0 σ.withdrawals
    right = subst (λ (k : ℕ). WithdrawalsRight k 0 σ.withdrawals) h.letters h.withdrawals

-- numbers that fit can be written
pub writable : {A : Automaton} → Fits A → EnoughForSets (sets_of_automaton A) → Writable A
writable fits long = record { states = omega (arith, fits.range); letters = omega (arith, fits.range); table = long.cells; marks = long.marks }

-- the last question behind the others
pub numbers-finishes : (A : Automaton) {s rows : List ℕ} {before after : WriteTables} {r : Result ℕ Refusal} → EnoughForSheet (sets_of_automaton A) before.witness
    → Asks A s rows before.witness after.witness (Ok tt) → Put (rows_text A rows) before.output after.output r → WritesNumbers A s before after r
numbers-finishes A {before = before} {after} {r} long (σ, ok, names, z) put =
    WritesNumbers.asked long σ ok z (subst (λ (text : List ℕ). Put text before.output after.output r) (named-text A ok.fits.range.3 names) put)
