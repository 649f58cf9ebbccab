-- What reading a sheet file answers, and what the lent tables hold then.
use Rattle.std.specs.Prelude.{ℕ, ◌≡◌, List, ◌⊎◌, Err, Ok, Result}
use Rattle.gate.specs.declared.Refusal.{Refusal}
use Rattle.automaton.specs.declared.Numbers.{Numbers}
use Rattle.gate.specs.Gate.{refusal}
use Rattle.automaton.specs.Automaton.{TransitionSets, AreNumbers}
use Rattle.lent.specs.Lent.{WitnessTables, EnoughForSheet, cleared_witness, cleared_sets, lent_sets}
use Rattle.format.specs.Format.{Sheet}
use Rattle.format.specs.Numbers.{numbers}
use Rattle.reading.specs.Read.{Accepted, Refuses}

-- the lent tables of reading
pub record SheetTables : Type 0 where
  -- the successor sets, and the marks
  pub sets : TransitionSets
  -- a word and two walks
  pub witness : WitnessTables

abbrev pub sheet_tables : TransitionSets → WitnessTables → SheetTables
sheet_tables sets witness = record { sets = sets; witness = witness }

-- the answer of questions 2 to 10, in tables that are long enough; without the names, which reading does not hand out
abbrev ReadsLong : List ℕ → SheetTables → SheetTables → Result Numbers Refusal → Type 0
ReadsLong s before after (Err r) = Refuses s before.witness after.witness r × (after.sets ≡ cleared_sets before.sets)
ReadsLong s before after (Ok a) =
    (σ : Sheet)
    × Accepted s σ
    × AreNumbers (numbers σ) a
    × (after.sets ≡ lent_sets (numbers σ) before.sets)
    × (after.witness ≡ cleared_witness before.witness)

-- READING. "Refusal 1 asked first touches nothing; .. every other refusal leave the tables of that call all zero, except the witness of 10"
abbrev pub Reads : List ℕ → SheetTables → SheetTables → Result Numbers Refusal → Type 0
Reads s before after (Err r) =
    ((EnoughForSheet before.sets before.witness → ⊥) × (r ≡ refusal 1 0) × (after ≡ before))
    ⊎ (EnoughForSheet before.sets before.witness × ReadsLong s before after (Err r))
Reads s before after (Ok a) = EnoughForSheet before.sets before.witness × ReadsLong s before after (Ok a)
