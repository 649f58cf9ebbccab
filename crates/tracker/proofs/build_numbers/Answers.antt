-- Each answer is that of the questions on the way to it. Assumes nothing.
use Rattle.std.specs.Prelude.{Ok, Result}
use Rattle.gate.specs.declared.Refusal.{Refusal}
use mathlib.Core.Path.{refl, subst}
use Rattle.automaton.specs.Automaton.{automaton}
use Rattle.lent.specs.Lent.{witness_tables}
use Rattle.walks.specs.Check.{ChecksLong}
use Rattle.filling.specs.TrackerTables.{tracker_tables}
use Rattle.tracker.specs.Build.{build_numbers_tables, EnoughToBuildNumbers, BuildsNumbers}
use Rattle.tracker.proofs.build_numbers.Goals as goal
use Rattle.tracker.proofs.build_numbers.Goals.{After-check_long, Else-not-enough}

-- question 1 is passed
lent : (c : Else-not-enough) →
    let a = c.args in
    EnoughToBuildNumbers (automaton a.a a.table.now a.marks.now) a.room
    (build_numbers_tables (witness_tables a.word.now a.one.now a.other.now) (tracker_tables a.tuples.now a.nexts.now))
lent c = c.enough.ensures.0 c.if-not-enough.false

-- the numbers are checked
abbrev Checked-as : After-check_long → Result Unit Refusal → Type 0
Checked-as c x =
    let a = c.args in
    let w = c.check_long.new in
    ChecksLong (automaton a.a a.table.now a.marks.now) (witness_tables a.word.now a.one.now a.other.now) (witness_tables w.word w.one w.other) x

pub returns-then-not-enough : goal.returns-then-not-enough
returns-then-not-enough c = BuildsNumbers.short (c.enough.ensures.1 c.if-not-enough.true) refl refl

pub check_long-requires : goal.check_long-requires
check_long-requires c = (lent (goal.at.check_long-requires c).Else-not-enough).lengths

pub returns-in-Err : goal.returns-in-Err
returns-in-Err c =
    let p = goal.at.returns-in-Err c in
    let refused = subst (Checked-as p.After-check_long) c.in-Err.is c.check_long.ensures in
    BuildsNumbers.refused (lent p.Else-not-enough) c.in-Err.r refused refl c.clear.ensures

pub track-requires : goal.track-requires
track-requires c =
    let p = goal.at.track-requires c in
    let accepted : Checked-as p.After-check_long (Ok tt) = subst (Checked-as p.After-check_long) c.in_default.is c.check_long.ensures in
    (accepted.0, (lent p.Else-not-enough).tracker)

pub returns : goal.returns
returns c =
    let p = goal.at.returns c in
    let accepted : Checked-as p.After-check_long (Ok tt) = subst (Checked-as p.After-check_long) c.in_default.is c.check_long.ensures in
    let (fits, free, cleared) = accepted in
    BuildsNumbers.asked (lent p.Else-not-enough) fits free cleared c.track.ensures
