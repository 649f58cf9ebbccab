-- Each answer is that of building, or of the last question. Assumes nothing.
use Rattle.std.specs.Prelude.{Result}
use Rattle.tracker.specs.declared.Tracker.{Tracker}
use Rattle.gate.specs.declared.Refusal.{Refusal}
use mathlib.Core.Path.{◌≡◌, subst}
use Rattle.automaton.specs.Automaton.{transition_sets}
use Rattle.lent.specs.Lent.{witness_tables}
use Rattle.lent.proofs.LentLaws.{sets-cleared-alike}
use Rattle.filling.specs.TrackerTables.{tracker_tables}
use Rattle.tracker.specs.Build.{BuildTables, build_tables}
use Rattle.building.specs.FileBuild.{Builds}
use Rattle.file_listing.specs.FileListLaws.{list-file-refused, file-sized, file-finished}
use Rattle.file_listing.proofs.list.Goals as goal
use Rattle.file_listing.proofs.list.Goals.{After-build}

-- the tables before and behind building
abbrev before : After-build → BuildTables
before c =
    let a = c.args in
    build_tables (transition_sets a.table.now a.marks.now) (witness_tables a.word.now a.one.now a.other.now) (tracker_tables a.tuples.now a.nexts.now)

abbrev built : After-build → BuildTables
built c =
    let w = c.build.new in
    build_tables (transition_sets w.table w.marks) (witness_tables w.word w.one w.other) (tracker_tables w.tuples w.nexts)

abbrev Built-as : After-build → Result Tracker Refusal → Type 0
Built-as c z = Builds c.args.sheet.now c.args.room (before c) (built c) z

built_as : (c : After-build) (z : Result Tracker Refusal) → c.build.result ≡ z → Built-as c z
built_as c z told = subst (Built-as c) told c.build.ensures

pub finish-listed-requires : goal.finish-listed-requires
finish-listed-requires c = file-sized (built_as (goal.at.finish-listed-requires c).After-build _ c.in-Ok.is)

pub returns-in-Err : goal.returns-in-Err
returns-in-Err c =
    list-file-refused (built_as (goal.at.returns-in-Err c).After-build _ c.in-Err.is) c.refuse.ensures

pub returns-in-Ok : goal.returns-in-Ok
returns-in-Ok c =
    let p = (goal.at.returns-in-Ok c).After-build in
    file-finished (built_as p _ c.in-Ok.is) (sets-cleared-alike (before p).sets (built p).sets c.build.auto.table c.build.auto.marks) c.finish-listed.ensures
    c.clear_refused.ensures
