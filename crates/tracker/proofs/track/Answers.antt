-- Cleared tables are filled, and cleared again where the tuples are too many. Assumes nothing.
use Rattle.std.specs.Prelude.{ℕ, Option}
use mathlib.Core.Path.{refl, sym, subst, ◌∙◌}
use Rattle.automaton.specs.Automaton.{automaton}
use Rattle.filling.specs.TrackerTables.{TrackerTables, tracker_tables, Fitted}
use Rattle.filling.specs.Fill.{Filling, Fills}
use Rattle.filling.specs.TrackerTablesLaws.{cleared-alike}
use Rattle.filling.proofs.FillLaws.{cleared-filling, cleared-fitted}
use Rattle.tracker.proofs.track.Goals as goal
use Rattle.tracker.proofs.track.Goals.{After-fill}

-- what filling answered, in tables that were cleared
abbrev Filled-as : After-fill → Option ℕ → Type 0
Filled-as c r =
    let g = c.args in
    let w = c.fill.new in
    Fills (automaton g.a g.table.now g.marks.now) g.room (tracker_tables c.clear.new.tuples c.clear.new.nexts) (tracker_tables w.tuples w.nexts) r

pub fill-requires : goal.fill-requires
fill-requires c =
    let g = c.args in
    let A = automaton g.a g.table.now g.marks.now in
    let lent = tracker_tables g.tuples.now g.nexts.now in
    subst (Filling A g.room) (sym c.clear.ensures) (cleared-filling A g.room lent c.requires.0 c.requires.1)

pub returns-in_default : goal.returns-in_default
returns-in_default c =
    let g = c.args in
    let f = c.fill in
    let k = c.clear.auto in
    let filled = tracker_tables f.new.tuples f.new.nexts in
    let lent = tracker_tables g.tuples.now g.nexts.now in
    let q = cleared-alike filled lent (f.auto.tuples ∙ k.tuples) (f.auto.nexts ∙ k.nexts) in
    (subst (Filled-as (goal.at.returns-in_default c).After-fill) c.in_default.is f.ensures, refl, c.clear-in_default.ensures ∙ q)

pub returns : goal.returns
returns c =
    let g = c.args in
    let f = c.fill in
    let A = automaton g.a g.table.now g.marks.now in
    let lent = tracker_tables g.tuples.now g.nexts.now in
    let w = tracker_tables f.new.tuples f.new.nexts in
    let m = c.in-Some.m in
    let fitted = subst (Filled-as (goal.at.returns c).After-fill) c.in-Some.is f.ensures in
    let h = subst (λ (x : TrackerTables). Fitted A g.room x w m) c.clear.ensures fitted in
    (record { edition = refl; n = refl; k = refl; initial = refl; recurring = refl }, cleared-fitted A g.room lent w m h)
