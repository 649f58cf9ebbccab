-- From what is read of a sheet file to the answer of reading. Assumes nothing.
use Rattle.std.specs.Prelude.{ℕ, List, Err, Ok, Result}
use Rattle.gate.specs.declared.Refusal.{Refusal}
use Rattle.automaton.specs.declared.Numbers.{Numbers}
use Rattle.std.proofs.Math.Logic.◌⊎◌.{inr}
use Rattle.lent.specs.Lent.{EnoughForSheet}
use Rattle.reading.specs.Read.{ReadTables, ReadsNamed}
use Rattle.sheet.specs.Read.{sheet_tables, Reads}

-- question 1 is asked first, and answered yes
pub reads-asked : (s : List ℕ) (before after : ReadTables) (r : Result Numbers Refusal) → EnoughForSheet before.sets before.witness → ReadsNamed s before after r
    → Reads s (sheet_tables before.sets before.witness) (sheet_tables after.sets after.witness) r
reads-asked s before after (Err r) long (f, z, y) = inr (long, (f, z))
reads-asked s before after (Ok a) long h = (long, (h.sheet, h.accepted, h.are, h.sets, h.witness))
