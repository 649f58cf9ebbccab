-- What writing a sheet from numbers answers, and what the lent tables hold then.
use Rattle.std.specs.Prelude.{ℕ, ◌≡◌, List, Err, Result}
use Rattle.gate.specs.Gate.{refusal, cleared, Put}
use Rattle.gate.specs.declared.Refusal.{Refusal}
use Rattle.automaton.specs.Automaton.{Automaton, sets_of_automaton}
use Rattle.lent.specs.Lent.{WitnessTables, cleared_witness, EnoughForSheet}
use Rattle.format.specs.Format.{Sheet}
use Rattle.format.specs.Written.{written}
use Rattle.named_numbers.specs.Ask.{NamedRefuse, NamedAccepted}

-- the lent tables of writing
pub record WriteTables : Type 0 where
  -- a word and two walks
  pub witness : WitnessTables
  -- the bytes of the text
  pub output : List ℕ

abbrev pub write_tables : WitnessTables → List ℕ → WriteTables
write_tables witness output = record { witness = witness; output = output }

-- WRITING FROM NUMBERS A with a file s for the names
pub data WritesNumbers (A : Automaton) (s : List ℕ) (before after : WriteTables) (r : Result ℕ Refusal) : Type 0 where
  -- 1, asked first, "touches nothing"
  short : (EnoughForSheet (sets_of_automaton A) before.witness → ⊥) → r ≡ Err (refusal 1 0) → after ≡ before → WritesNumbers A s before after r
  -- 2 to 10
  refused : EnoughForSheet (sets_of_automaton A) before.witness → (x : Refusal) → NamedRefuse A s before.witness after.witness x → r ≡ Err x
      → after.output ≡ cleared before.output → WritesNumbers A s before after r
  -- 1, asked last, or the text
  asked : EnoughForSheet (sets_of_automaton A) before.witness → (σ : Sheet) → NamedAccepted A s σ → after.witness ≡ cleared_witness before.witness
      → Put (written A σ.names σ.withdrawals) before.output after.output r → WritesNumbers A s before after r
