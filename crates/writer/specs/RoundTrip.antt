-- THE ROUND TRIP of numbers with names and withdrawals: what is written reads back as what it was written from, and is written again byte for byte. Assumes nothing.
use Rattle.std.specs.Prelude.{ℕ, ◌≡◌, List, [], ◌∷◌, ◌++◌, map}
use Rattle.std.proofs.Math.Path.{refl}
use Rattle.std.proofs.Common.{sym, ap, ap₂, ◌∙◌, subst}
use Rattle.names.specs.Name.{compose}
use Rattle.names.specs.NameLaws.{compose-idempotent}
use Rattle.automaton.specs.Automaton.{Automaton, sets_of_automaton, graph_of, Fits}
use Rattle.automaton.specs.Endless.{MeetingFree}
use Rattle.lent.specs.Lent.{EnoughForSets}
use Rattle.format.specs.Format.{Withdrawal, Sheet, WithdrawalsRight, FileIs, lines, end_line}
use Rattle.format.specs.Numbers.{numbers}
use Rattle.format.specs.Written.{sheet_of, written_sheet, written}
use Rattle.reading.specs.Read.{Accepted}
use Rattle.named_numbers.specs.Ask.{NamedAccepted}
use Rattle.parser.proofs.UniqueLaws.{file-unique}
use Rattle.writer.specs.Writing.{trimmed, writing, LettersRight}
use Rattle.writer.specs.NumbersLaws.{numbers-written}
use Rattle.writer.specs.TrimmedLaws.{free-trimmed, written-trimmed}
use Rattle.writer.specs.FileLaws.{written-file}

-- What is written depends on the numbers, the composed names and the withdrawals alone

pub written-composed : (A : Automaton) (xs ys : List (List ℕ)) (ws : List Withdrawal) → map compose xs ≡ map compose ys → written A xs ws ≡ written A ys ws
unfolding written written_sheet
written-composed A xs ys ws e = ap (λ names. lines (sheet_of A names ws) ++ end_line) e

composed-twice : (names : List (List ℕ)) → map compose (map compose names) ≡ map compose names
composed-twice [] = refl
composed-twice (x ∷ xs) = ap₂ ◌∷◌ (compose-idempotent x) (composed-twice xs)

module _ (A : Automaton) (names : List (List ℕ)) (ws : List Withdrawal) where
  names-written : map compose (written_sheet A names ws).names ≡ map compose names
  unfolding sheet_of written_sheet
  names-written = composed-twice names

  withdrawals-written : (written_sheet A names ws).withdrawals ≡ ws
  unfolding sheet_of written_sheet
  withdrawals-written = refl

-- the file that accepted numbers take their names from gives them letters that are right
pub named-right : {A : Automaton} {s : List ℕ} {σ : Sheet} → NamedAccepted A s σ → LettersRight A σ.names σ.withdrawals
named-right {σ = σ} h =
    let file = h.names.file in
    record {
      names = file.right.names;
      all-names = file.all-names ∙ h.letters;
      withdrawals = subst (λ (k : ℕ). WithdrawalsRight k 0 σ.withdrawals) h.letters file.right.withdrawals;
      in-force = h.in-force;
    }

-- FROM NUMBERS with names and withdrawals
module _ (A : Automaton) (fits : Fits A) (long : EnoughForSets (sets_of_automaton A)) (names : List (List ℕ)) (ws : List Withdrawal) (right : LettersRight A names ws) where
  -- what is written is accepted, where no walks meet
  pub numbers-accepted : MeetingFree (graph_of A) → Accepted (written A names ws) (written_sheet A names ws)
  numbers-accepted free = record {
    file = written-file A fits names ws right;
    free = subst (λ (B : Automaton). MeetingFree (graph_of B)) (sym (numbers-written A names ws fits long)) (free-trimmed A fits free);
  }

  module _ (τ : Sheet) (file : FileIs (written A names ws) τ) where
    is : written_sheet A names ws ≡ τ
    is = file-unique (written A names ws) (written_sheet A names ws) τ (written-file A fits names ws right) file

    -- whatever sheet is read back from it has the numbers, the names and the withdrawals
    pub numbers-back : numbers τ ≡ trimmed A
    numbers-back = ap numbers (sym is) ∙ numbers-written A names ws fits long

    pub names-back : map compose τ.names ≡ map compose names
    names-back = ap (λ (υ : Sheet). map compose υ.names) (sym is) ∙ names-written A names ws

    pub withdrawals-back : τ.withdrawals ≡ ws
    withdrawals-back = ap (λ (υ : Sheet). υ.withdrawals) (sym is) ∙ withdrawals-written A names ws

    -- and is written again as the same bytes
    pub numbers-again : writing τ ≡ written A names ws
    numbers-again =
        ap (λ (B : Automaton). written B τ.names τ.withdrawals) numbers-back
        ∙ written-trimmed A τ.names τ.withdrawals
        ∙ ap (written A τ.names) withdrawals-back
        ∙ written-composed A τ.names names ws names-back
