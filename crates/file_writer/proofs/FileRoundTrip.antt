-- THE ROUND TRIP of a file: what is written reads back as the sheet it was written from, and is written again byte for byte. Assumes nothing.
use Rattle.std.specs.Prelude.{ℕ, ◌≤◌, ◌≡◌, List, length}
use Rattle.std.proofs.Common.{sym, ap₂, ◌∙◌, subst}
use Rattle.automaton.specs.Automaton.{Automaton, sets_of_automaton, graph_of, Fits}
use Rattle.automaton.specs.Endless.{MeetingFree}
use Rattle.lent.specs.Lent.{EnoughForSets}
use Rattle.format.specs.Format.{Withdrawal, Sheet, FileIs}
use Rattle.format.specs.Numbers.{numbers}
use Rattle.format.specs.Written.{longest_text, written_sheet, written}
use Rattle.format.proofs.NumbersLaws.{sheet-fits, sheet-in-force}
use Rattle.reading.specs.Read.{Accepted}
use Rattle.writer.specs.Writing.{writing, LettersRight}
use Rattle.writer.specs.TrimmedLaws.{sheet-long, trimmed-numbers}
use Rattle.writer.specs.FileLaws.{longest, written-file}
use Rattle.writer.specs.RoundTrip.{written-composed, numbers-accepted, numbers-back, names-back, withdrawals-back}
use Rattle.file_writer.specs.Same.{SameSheet}

-- THE SAME SHEET IS WRITTEN AS THE SAME BYTES
pub same_bytes : (σ τ : Sheet) → SameSheet σ τ → writing σ ≡ writing τ
same_bytes σ τ same =
    ap₂ (λ (A : Automaton) (ws : List Withdrawal). written A σ.names ws) same.same_numbers same.same-withdrawals
    ∙ written-composed (numbers τ) σ.names τ.names τ.withdrawals same.same_names

-- FROM A FILE
module _ (s : List ℕ) (σ : Sheet) (file : FileIs s σ) where
  fits : Fits (numbers σ)
  fits = sheet-fits s σ file

  long : EnoughForSets (sets_of_automaton (numbers σ))
  long = sheet-long σ

  right : LettersRight (numbers σ) σ.names σ.withdrawals
  unfolding numbers
  right = record { names = file.right.names; all-names = file.all-names; withdrawals = file.right.withdrawals; in-force = sheet-in-force s σ file }

  -- what is written is no longer than its edition's longest text
  pub writing-most : length (writing σ) ≤ longest_text σ.edition
  unfolding numbers
  writing-most = longest (numbers σ) fits σ.names σ.withdrawals right

  -- it is the file of the sheet that is written
  writing-file : FileIs (writing σ) (written_sheet (numbers σ) σ.names σ.withdrawals)
  writing-file = written-file (numbers σ) fits σ.names σ.withdrawals right

  -- and is accepted if the file was
  pub accepted-back : MeetingFree (graph_of (numbers σ)) → Accepted (writing σ) (written_sheet (numbers σ) σ.names σ.withdrawals)
  accepted-back free = numbers-accepted (numbers σ) fits long σ.names σ.withdrawals right free

  module _ (τ : Sheet) (back : FileIs (writing σ) τ) where
    -- whatever sheet is read back from it is the same sheet
    pub sheet-back : SameSheet σ τ
    sheet-back = record {
      same_numbers = sym (numbers-back (numbers σ) fits long σ.names σ.withdrawals right τ back ∙ trimmed-numbers σ);
      same_names = sym (names-back (numbers σ) fits long σ.names σ.withdrawals right τ back);
      same-withdrawals = sym (withdrawals-back (numbers σ) fits long σ.names σ.withdrawals right τ back);
    }

    -- and is written again as the same bytes
    pub bytes_back : writing τ ≡ writing σ
    bytes_back = sym (same_bytes σ τ sheet-back)

-- THE SAME BYTES ARE THE SAME SHEET
pub bytes_same : (s t : List ℕ) (σ τ : Sheet) → FileIs s σ → FileIs t τ → writing σ ≡ writing τ → SameSheet σ τ
bytes_same s t σ τ file other e =
    let υ = written_sheet (numbers σ) σ.names σ.withdrawals in
    let one = sheet-back s σ file υ (writing-file s σ file) in
    let two = sheet-back t τ other υ (subst (λ (text : List ℕ). FileIs text υ) e (writing-file s σ file)) in
    record {
      same_numbers = one.same_numbers ∙ sym two.same_numbers;
      same_names = one.same_names ∙ sym two.same_names;
      same-withdrawals = one.same-withdrawals ∙ sym two.same-withdrawals;
    }
