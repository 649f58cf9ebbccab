-- The answers of listing from a sheet file, one by one. Assumes nothing.
use Rattle.std.specs.Prelude.{ℕ, ◌≡◌, List, Err, Ok, Result}
use Rattle.std.proofs.Common.{sym, subst, ◌∙◌}
use Rattle.gate.specs.Gate.{refusal, RefusedWith}
use Rattle.gate.specs.GateLaws.{refused-first}
use Rattle.gate.specs.declared.Refusal.{Refusal}
use Rattle.automaton.specs.Automaton.{TransitionSets}
use Rattle.lent.specs.Lent.{cleared_witness, cleared_sets}
use Rattle.format.specs.Numbers.{numbers}
use Rattle.format.proofs.NumbersLaws.{sheet-fits}
use Rattle.reading.proofs.ReadLaws.{refuses-number}
use Rattle.filling.specs.TrackerTables.{TrackerTables, cleared_tracker}
use Rattle.tracker.specs.Build.{BuildTables, build_tables, cleared_build}
use Rattle.building.specs.FileBuild.{Builds}
use Rattle.building.specs.FileBuildLaws.{file-built}
use Rattle.filling.proofs.FittedLaws.{fitted-cleared}
use Rattle.tracker.specs.declared.Tracker.{Tracker}
use Rattle.listing.specs.List.{listing_of, Left}
use Rattle.listing.specs.ListLaws.{sized, room-number}
use Rattle.file_listing.specs.FileList.{list_tables, Lists}
use Rattle.listing_lines.specs.PutLine.{Sized}
use Rattle.listing.specs.Finish.{Finishes}

-- WHAT IS LEFT of the tables that building gave, from what the last question leaves of the tracker's. The buffer was old and is new.

left-file : (before built : BuildTables) (sets : TransitionSets) (tracker : TrackerTables) (l : Result ℕ Refusal) → built.witness ≡ cleared_witness before.witness
    → cleared_tracker built.tracker ≡ cleared_tracker before.tracker → Left (cleared_sets before.sets) built.sets sets l
    → Left (cleared_tracker built.tracker) built.tracker tracker l
    → Left (cleared_build before) built (build_tables sets built.witness tracker) l
left-file before built sets tracker (Err r) witness zero told left = λ i. build_tables (told i) (witness i) ((left ∙ zero) i)
left-file before built sets tracker (Ok count) witness zero told left = λ i. build_tables (told i) built.witness (left i)

module _ {s : List ℕ} {room : ℕ} {before built : BuildTables} where
  -- refused by building
  pub list-file-refused : {r : Refusal} {old new : List ℕ} {l : Result ℕ Refusal} → Builds s room before built (Err r) → RefusedWith r old new l
      → Lists s room (list_tables before old) (list_tables built new) l
  list-file-refused {r} (Builds.short n e same) a =
      let i : r ≡ refusal 1 0 = cc in
      let (is, output) = refused-first a i in
      Lists.short n is (λ i. list_tables (same i) (output i))
  list-file-refused {r} (Builds.refused l q x e o z) a =
      Lists.refused l r (Builds.refused l q x e o z) a.is (a.zero (λ n. refuses-number x (cc)))
  list-file-refused {r} (Builds.asked l σ x z (y, e, q) o) a =
      Lists.refused l r (Builds.asked l σ x z (y, e, q) o) a.is (a.zero (room-number r e))

  -- behind building, which answered x
  module _ {x : Tracker} (builds : Builds s room before built (Ok x)) where
    pub file-sized : Sized x.numbers.n x.numbers.k x.tuples built.tracker.tuples built.tracker.nexts
    file-sized = let (l, (σ, y, are, o, fitted), z) = file-built builds in sized x (sheet-fits s σ y.file) l.tracker are fitted

    -- and the last question: its answer is r, and by it the tracker's tables, the successor sets and the marks are left
    pub file-finished : {sets : TransitionSets} {tracker : TrackerTables} {old new : List ℕ} {l r : Result ℕ Refusal} → cleared_sets built.sets ≡ cleared_sets before.sets
        → Finishes (listing_of x built.tracker) built.tracker tracker old new l → (r ≡ l) × Left (cleared_sets built.sets) built.sets sets r
        → Lists s room (list_tables before old) (list_tables (build_tables sets built.witness tracker) new) r
    file-finished {sets} {tracker} {old} {new} {l} {r} kept finished (same, told) =
        let (put, left) = subst (Finishes (listing_of x built.tracker) built.tracker tracker old new) (sym same) finished in
        let (lent, (σ, y, are, i, fitted), witness) = file-built builds in
        let zero = fitted-cleared (numbers σ) (sheet-fits s σ y.file) room x.tuples before.tracker built.tracker fitted in
        let empty = subst (λ (z : TransitionSets). Left z built.sets sets r) kept told in
        Lists.asked built x builds put (left-file before built sets tracker r witness zero empty left)
