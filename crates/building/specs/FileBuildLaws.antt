-- The answers of building from a sheet file, one by one. Assumes nothing.
use Rattle.std.specs.Prelude.{ℕ, ◌≡◌, List, length, take, Err, Ok, Result}
use Rattle.std.proofs.Common.{sym, ◌∙◌}
use Rattle.std.proofs.Math.Path.{subst}
use Rattle.gate.specs.Gate.{cleared}
use Rattle.gate.specs.GateLaws.{same-cleared}
use Rattle.gate.specs.declared.Refusal.{Refusal}
use Rattle.automaton.specs.Automaton.{Automaton, TransitionSets, automaton, AreNumbers}
use Rattle.lent.specs.Lent.{cleared_witness, cleared_sets, lent_sets}
use Rattle.automaton.specs.declared.Numbers.{Numbers}
use Rattle.format.specs.Format.{Sheet}
use Rattle.format.specs.Numbers.{numbers}
use Rattle.parser.specs.LettersOf.{LettersOf, LettersAlone}
use Rattle.reading.specs.Read.{Accepted, ReadTables, read_tables, SheetRead}
use Rattle.reading.proofs.ReadLaws.{read-automaton}
use Rattle.filling.specs.TrackerTables.{TrackerTables, Fitted}
use Rattle.tracker.specs.declared.Tracker.{Tracker}
use Rattle.tracker.specs.Build.{BuildTables, build_tables, EnoughToBuild, Tracks}
use Rattle.tracker.specs.BuildLaws.{no-refusal}
use Rattle.building.specs.FileBuild.{Builds, RowsBuilt, BuildsNamed}

-- a tracker's numbers are those that it is built from
same_numbers : {a b : Numbers} {table marks : List ℕ} → AreNumbers (automaton a table marks) b → a ≡ b
same_numbers are = sym (λ i. record { edition = are.edition i; n = are.n i; k = are.k i; initial = are.initial i; recurring = are.recurring i })

-- THE NAMES of a sheet that is read go with its tracker
module _ {s : List ℕ} {before after : ReadTables} {a : Numbers} (h : SheetRead s before after a) where
  read_letters : LettersOf s after.rows a
  unfolding numbers
  read_letters =
      let range = h.accepted.file.right.range in
      record { sheet = h.sheet; file = h.accepted.file; are = h.are; range = rw (h.are.n, h.are.k) range; names = h.names }

  rows-built : {room : ℕ} {lent tracker : TrackerTables} {x : Tracker} → Tracks (automaton a (take 128 after.sets.successors) (take 128 after.sets.marks)) room lent tracker (Ok x)
      → RowsBuilt s before.rows after.rows (Ok x)
  unfolding read_letters
  rows-built (are, fitted) =
      subst (LettersAlone s before.rows after.rows) (same_numbers are)
      (read_letters, h.behind)

-- FROM A SHEET FILE that is read, with names in rows; the tables hold what is read then
module _ {s : List ℕ} {room : ℕ} {before : BuildTables} (lent : EnoughToBuild room before) {rows : List ℕ} {read : ReadTables} {a : Numbers}
    (h : SheetRead s (read_tables before.sets rows before.witness) read a) {tracker : TrackerTables} where
  -- 11: the answer b is a refusal, and the sets and the names are cleared behind it
  pub file-over : {b : Result Tracker Refusal} {r : Refusal} {sets : TransitionSets} {left : List ℕ} → b ≡ Err r → Tracks (automaton a (take 128 read.sets.successors) (take 128 read.sets.marks)) room before.tracker tracker b
      → cleared_sets read.sets ≡ cleared_sets before.sets → sets ≡ cleared_sets read.sets → length read.rows ≡ length rows → left ≡ cleared read.rows
      → BuildsNamed s room before (build_tables sets read.witness tracker) rows left b
  file-over {b} {r} {sets} {left} told over n e m f =
      let tracks : Tracks (numbers h.sheet) room before.tracker tracker b =
      subst (λ (A : Automaton). Tracks A room before.tracker tracker b) (read-automaton h) over in
      subst (BuildsNamed s room before (build_tables sets read.witness tracker) rows left) (sym told) (
        Builds.asked lent h.sheet h.accepted h.witness (subst (Tracks (numbers h.sheet) room before.tracker tracker) told tracks)
            (e ∙ n),
        f ∙ same-cleared rows read.rows m,
      )

  -- or b is the tracker
  pub file-is : {b : Result Tracker Refusal} {x : Tracker} → b ≡ Ok x → Tracks (automaton a (take 128 read.sets.successors) (take 128 read.sets.marks)) room before.tracker tracker b
      → BuildsNamed s room before (build_tables read.sets read.witness tracker) rows read.rows b
  file-is {b} {x} told tracks =
      let is = subst (Tracks (automaton a (take 128 read.sets.successors) (take 128 read.sets.marks)) room before.tracker tracker) told tracks in
      subst (BuildsNamed s room before (build_tables read.sets read.witness tracker) rows read.rows) (sym told) (
        Builds.asked lent h.sheet h.accepted h.witness
            (subst (λ (A : Automaton). Tracks A room before.tracker tracker (Ok x)) (read-automaton h) is) h.sets,
        rows-built h is,
      )

-- WHAT A TRACKER TELLS of the questions on the way to it
pub file-built : {s : List ℕ} {room : ℕ} {before after : BuildTables} {x : Tracker} → Builds s room before after (Ok x)
    → EnoughToBuild room before
    × ((σ : Sheet) × Accepted s σ × AreNumbers (numbers σ) x.numbers × (after.sets ≡ lent_sets (numbers σ) before.sets)
    × Fitted (numbers σ) room before.tracker after.tracker x.tuples)
    × (after.witness ≡ cleared_witness before.witness)
file-built (Builds.short n e same) = absurd (no-refusal e)
file-built (Builds.refused l r h e o c) = absurd (no-refusal e)
file-built (Builds.asked l σ y c (a, h) o) = (l, (σ, y, a, o, h), c)
