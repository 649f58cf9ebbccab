-- The letter of a name: questions 1 to 10 and 14.
use Rattle.std.specs.Prelude.{ℕ, ◌≡◌, List, Err, Ok, Result}
use Rattle.gate.specs.Gate.{refusal}
use Rattle.gate.specs.declared.Refusal.{Refusal}
use Rattle.lent.specs.Lent.{WitnessTables, EnoughForWitness, cleared_witness}
use Rattle.format.specs.Format.{Sheet}
use Rattle.format.specs.StandsFor.{StandsFor}
use Rattle.reading.specs.Read.{Accepted, Refuses}

-- "Is each name known? No: 14.", on a sheet that is accepted. A stretch that is no name is no letter's.
abbrev pub LetterOf : Sheet → List ℕ → Result ℕ Refusal → Type 0
LetterOf σ name (Err r) = ((letter : ℕ) → StandsFor σ name letter → ⊥) × (r ≡ refusal 14 0)
LetterOf σ name (Ok l) = StandsFor σ name l

-- THE SEARCH FOR A NAME in a sheet file s. The tables are the witness.
pub data Finds (s name : List ℕ) (before after : WitnessTables) (r : Result ℕ Refusal) : Type 0 where
  -- 1, asked first, "touches nothing"
  short : (EnoughForWitness before → ⊥) → r ≡ Err (refusal 1 0) → after ≡ before → Finds s name before after r
  -- 2 to 10
  refused : EnoughForWitness before → (x : Refusal) → Refuses s before after x → r ≡ Err x → Finds s name before after r
  -- 14, or the letter
  asked : EnoughForWitness before → (σ : Sheet) → Accepted s σ → after ≡ cleared_witness before → LetterOf σ name r → Finds s name before after r
