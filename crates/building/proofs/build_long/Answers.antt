-- Each answer is that of the questions on the way to it. Assumes nothing.
use Rattle.std.specs.Prelude.{Result}
use Rattle.gate.specs.declared.Refusal.{Refusal}
use Rattle.automaton.specs.declared.Numbers.{Numbers}
use mathlib.Core.Path.{◌≡◌, refl, sym, subst}
use Prim.Native.Nat.{◌≤◌}
use lib.ListN.{length}
use lib.Seq.{length-take-le}
use Rattle.automaton.specs.Automaton.{transition_sets}
use Rattle.lent.specs.Lent.{witness_tables}
use Rattle.lent.proofs.LentLaws.{sets-cleared-alike}
use Rattle.reading.specs.Read.{read_tables, ReadsNamed}
use Rattle.reading.proofs.ReadLaws.{read_fits}
use Rattle.filling.specs.TrackerTables.{tracker_tables}
use Rattle.building.specs.FileBuild.{Builds}
use Rattle.building.specs.FileBuildLaws.{file-over, file-is}
use Rattle.building.proofs.build_long.Goals as goal
use Rattle.building.proofs.build_long.Goals.{After-read_long}

-- the answer of reading the file
abbrev Read-as : After-read_long → Result Numbers Refusal → Type 0
Read-as c r =
    let a = c.args in
    let w = c.read_long.new in
    ReadsNamed a.sheet.now (read_tables (transition_sets a.table.now a.marks.now) a.rows.now (witness_tables a.word.now a.one.now a.other.now))
    (read_tables (transition_sets w.table w.marks) w.rows (witness_tables w.word w.one w.other)) r

read_as : (c : After-read_long) (r : Result Numbers Refusal) → c.read_long.result ≡ r → Read-as c r
read_as c r told = subst (Read-as c) told c.read_long.ensures

-- the tables of successor sets and marks are as long as they were lent
cells : (c : After-read_long) → 128 ≤ length c.read_long.new.table
cells c = subst (128 ≤◌) (sym c.read_long.auto.table) c.requires.0.lengths.tables.cells

marks : (c : After-read_long) → 128 ≤ length c.read_long.new.marks
marks c = subst (128 ≤◌) (sym c.read_long.auto.marks) c.requires.0.lengths.tables.marks

pub read_long-requires : goal.read_long-requires
read_long-requires c =
    let p = c.requires in
    (p.0.lengths, p.1)

pub slice_bounds-track-end : goal.slice_bounds-track-end
slice_bounds-track-end c = cells (goal.at.slice_bounds-track-end c).After-read_long

pub slice_bounds-track-end-in-Ok : goal.slice_bounds-track-end-in-Ok
slice_bounds-track-end-in-Ok c =
    sym (length-take-le 128 c.read_long.new.table (cells (goal.at.slice_bounds-track-end-in-Ok c).After-read_long))

pub slice_bounds-track-end-in-Ok-2 : goal.slice_bounds-track-end-in-Ok-2
slice_bounds-track-end-in-Ok-2 c = marks (goal.at.slice_bounds-track-end-in-Ok-2 c).After-read_long

pub slice_bounds-track-end-in-Ok-3 : goal.slice_bounds-track-end-in-Ok-3
slice_bounds-track-end-in-Ok-3 c =
    sym (length-take-le 128 c.read_long.new.marks (marks (goal.at.slice_bounds-track-end-in-Ok-3 c).After-read_long))

pub track-built-requires : goal.track-built-requires
track-built-requires c =
    (read_fits (read_as (goal.at.track-built-requires c).After-read_long _ c.in-Ok.is), c.requires.0.tracker)

pub returns-in-Err : goal.returns-in-Err
returns-in-Err c =
    let refused = read_as (goal.at.returns-in-Err c).After-read_long _ c.in-Err.is in
    (Builds.refused c.requires.0 c.in-Err.r refused.0 refl refused.1 c.clear.ensures, refused.2)

pub returns-in-Err-built : goal.returns-in-Err-built
returns-in-Err-built c =
    let k = c.read_long.auto in
    let n = c.read_long.new in
    let a = c.args in
    let t = c.track-built.new in
    file-over c.requires.0 (read_as (goal.at.returns-in-Err-built c).After-read_long _ c.in-Ok.is) {tracker = tracker_tables t.tuples t.nexts}
    c.in-Err-built.is c.track-built.ensures
    (sets-cleared-alike (transition_sets a.table.now a.marks.now) (transition_sets n.table n.marks) k.table k.marks) c.clear_sets.ensures k.rows
    c.clear_bytes.ensures

pub returns-in_default : goal.returns-in_default
returns-in_default c =
    file-is c.requires.0 (read_as (goal.at.returns-in_default c).After-read_long _ c.in-Ok.is) c.in_default.is c.track-built.ensures
