-- What writing a sheet file anew answers, and what the lent tables hold then.
use Rattle.std.specs.Prelude.{ℕ, ◌≡◌, List, Err, Result}
use Rattle.gate.specs.Gate.{refusal, cleared, Put}
use Rattle.gate.specs.declared.Refusal.{Refusal}
use Rattle.lent.specs.Lent.{EnoughForWitness, cleared_witness}
use Rattle.format.specs.Format.{Sheet}
use Rattle.reading.specs.Read.{Accepted, Refuses}
use Rattle.writer.specs.Writing.{writing}
use Rattle.writer.specs.Write.{WriteTables}

-- WRITING FROM A FILE s: "The writer writes composed letters"
pub data Writes (s : List ℕ) (before after : WriteTables) (r : Result ℕ Refusal) : Type 0 where
  -- 1, asked first, "touches nothing"
  short : (EnoughForWitness before.witness → ⊥) → r ≡ Err (refusal 1 0) → after ≡ before → Writes s before after r
  -- 2 to 10
  refused : EnoughForWitness before.witness → (x : Refusal) → Refuses s before.witness after.witness x → r ≡ Err x
      → after.output ≡ cleared before.output → Writes s before after r
  -- 1, asked last, or the text
  asked : EnoughForWitness before.witness → (σ : Sheet) → Accepted s σ → after.witness ≡ cleared_witness before.witness
      → Put (writing σ) before.output after.output r → Writes s before after r
