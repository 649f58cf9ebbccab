-- The answers of the call, one by one. Assumes nothing.
use Rattle.std.specs.Prelude.{ℕ, ◌≤◌, List, length, Err, Ok, Option, Result}
use Rattle.gate.specs.declared.Refusal.{Refusal}
use Rattle.std.proofs.Common.{subst, arith}
use Rattle.format.specs.Numbers.{numbers}
use Rattle.format.proofs.NumbersLaws.{sheet-fits}
use Rattle.tracker.specs.Build.{BuildTables}
use Rattle.tracker.specs.declared.Tracker.{Tracker}
use Rattle.building.specs.FileBuild.{Builds}
use Rattle.building.specs.FileBuildLaws.{file-built}
use Rattle.ways.proofs.FittedWayLaws.{fitted-down, fitted-shortest}
use Rattle.ways.specs.Spell.{LeadsDown}
use Rattle.file_way.specs.FileWay.{way_tables, EnoughForWay, ShowsWay}
use Rattle.file_way.specs.Finish.{Followable, Finished}

-- BEHIND BUILDING, which answered b

built-followable : {s : List ℕ} {room : ℕ} {before built : BuildTables} (x : Tracker) → Builds s room before built (Ok x) → (letters : List ℕ) → room ≤ length letters
    → LeadsDown built.tracker.tuples x.tuples × (x.tuples ≤ length letters)
built-followable {s} {room} {before} {built} x builds letters long =
    let (lent, (σ, y, are, i, fitted), witness) = file-built builds in
    let few = fitted.room-is in
    (fitted-down (numbers σ) (sheet-fits s σ y.file) room x.tuples before.tracker built.tracker fitted lent.tracker, omega arith)

pub followable : {s : List ℕ} {room : ℕ} {before built : BuildTables} (b : Result Tracker Refusal) → Builds s room before built b → (letters : List ℕ) → room ≤ length letters
    → Followable b built.tracker.tuples letters
followable (Err r) builds letters long = tt
followable (Ok x) builds letters long = built-followable x builds letters long

module _ {s : List ℕ} {room t : ℕ} {before built : BuildTables} {b : Result Tracker Refusal} {old new : List ℕ} {w : Result (Option ℕ) Refusal} (enough : EnoughForWay room (way_tables before old))
    (builds : Builds s room before built b) where
  pub finished : Finished b t built.tracker.tuples old new w → ShowsWay s room t (way_tables before old) (way_tables built new) w
  finished (Finished.refused r told is zero) = ShowsWay.refused enough r (subst (Builds s room before built) told builds) is zero
  finished (Finished.none x told h is zero) = ShowsWay.none enough x (subst (Builds s room before built) told builds) h zero is
  finished (Finished.shown x told h size spelled is) =
      let builds-it = subst (Builds s room before built) told builds in
      let (lent, (σ, y, are, i, fitted), witness) = file-built builds-it in
      ShowsWay.shown enough x builds-it h σ y size
      (record {
        spelled = spelled;
        shortest = fitted-shortest (numbers σ) (sheet-fits s σ y.file) room x.tuples before.tracker built.tracker fitted t h spelled.word spelled.spells;
      })
      is
