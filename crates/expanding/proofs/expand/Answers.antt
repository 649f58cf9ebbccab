-- Each way through the step answers as the laws of the tables say. Assumes nothing.
use mathlib.Core.Path.{refl}
use Prim.Native.Nat.{◌*◌, ◌/◌, ◌%◌, ◌≤◌, ◌<◌}
use native.Mathlib.Omega.{arith}
use lib.ListN.{length}
use Rattle.automaton.specs.Automaton.{automaton}
use Rattle.expanding.specs.Expand.{Taken}
use Rattle.expanding.specs.ExpandLaws.{fill-steps, Looked, goes-skip, goes-old, goes-new, goes_over}
use Rattle.expanding.proofs.expand.Goals as goal
use Rattle.expanding.proofs.expand.Goals.{After-find_or_add-t, Else-a-c}

-- behind the first test the step can be taken
taken : (c : Else-a-c) → Taken (automaton c.args.a c.args.table.now c.args.marks.now) c.args.c c.args.m
taken c = record { from = c.requires.1; letter = c.if-a-c.false }

-- there are few tuples, and a cell for the step's number
bounds : (c : Else-a-c) → let a = c.args in (a.c / 8 < a.m) × (a.m ≤ a.room) × (a.room ≤ 1024) × (8 * a.room ≤ length a.nexts.now)
bounds c = let (f, from) = c.requires in (from, f.room-is, f.room_fits.most, f.room_fits.nexts)

-- its row, once its number is told
looked : (c : After-find_or_add-t) →
    let a = c.args in
    let d = c.find_or_add-t in
    Looked (automaton a.a a.table.now a.marks.now) a.room a.c a.m a.tuples.now a.nexts.now a.head.now a.link.now c.enter.new.w
    (record { from = a.c / 8; letter = a.c % 8 }) d.new.table d.new.head d.new.link d.result
looked c = record {
  filled = c.requires.0;
  taken = record { from = c.requires.1; letter = c.if-a-c.false };
  gives = c.enter.ensures;
  from = refl;
  letter = refl;
  placed = c.find_or_add-t.ensures;
}

pub returns-then-a-c : goal.returns-then-a-c
returns-then-a-c c = goes-skip c.requires.0 c.if-a-c.true

pub enter-requires : goal.enter-requires
enter-requires c =
    let f = c.requires.0 in
    let p = c.requires.1 in
    let q = f.room-is in
    let r = f.room_fits.most in
    let t = f.room_fits.tuples in
    (fill-steps f (taken (goal.at.enter-requires c).Else-a-c), record { small = omega arith; row = omega arith; cells = refl })

pub overflow_cast-way : goal.overflow_cast-way
overflow_cast-way c = let h = bounds (goal.at.overflow_cast-way c).Else-a-c in omega arith

pub overflow_cast-way-2 : goal.overflow_cast-way-2
overflow_cast-way-2 c = omega arith

pub overflow_add-result : goal.overflow_add-result
overflow_add-result c = let h = bounds (goal.at.overflow_add-result c).Else-a-c in omega arith

pub returns-then-over : goal.returns-then-over
returns-then-over c = goes_over (looked (goal.at.returns-then-over c).After-find_or_add-t) c.if-over.true

pub overflow_cast-nexts : goal.overflow_cast-nexts
overflow_cast-nexts c = let h = bounds (goal.at.overflow_cast-nexts c).Else-a-c in omega arith

pub offset_bounds-nexts-c : goal.offset_bounds-nexts-c
offset_bounds-nexts-c c = let h = bounds (goal.at.offset_bounds-nexts-c c).Else-a-c in omega arith

pub bounds-nexts-c : goal.bounds-nexts-c
bounds-nexts-c c = let h = bounds (goal.at.bounds-nexts-c c).Else-a-c in omega arith

pub returns-then-t-m : goal.returns-then-t-m
returns-then-t-m c = goes-old (looked (goal.at.returns-then-t-m c).After-find_or_add-t) c.if-t-m.true

pub returns : goal.returns
returns c = goes-new (looked (goal.at.returns c).After-find_or_add-t) c.if-t-m.false c.if-over.false
