-- The tables hold what is found before each step, and behind the last step it is all. Assumes nothing.
use Prim.Native.Nat.{◌+◌, ◌*◌, ◌≤◌, ◌<◌}
use mathlib.Core.Path.{refl, sym, ◌∙◌}
use native.Mathlib.Omega.{arith}
use Rattle.automaton.specs.Automaton.{automaton}
use Rattle.expanding.specs.Tables.{tracker_tables}
use Rattle.filling.proofs.FillLaws.{filled-begins, fills-over, fills-all}
use Rattle.filling.proofs.fill.Goals as goal
use Rattle.filling.proofs.fill.Goals.{In-loop-c}

-- the tuples fit in the room, so the steps are few
few : (c : In-loop-c) → (c.loop-c.c < 8 * c.args.room) × (c.args.room ≤ 1024)
few c =
    let f = c.loop-c.invariant.0 in
    (omega (arith, f.room-is, c.loop-c-test.true), f.room_fits.most)

pub begin-requires : goal.begin-requires
begin-requires c =
    let p = c.requires in
    let n = p.fits.range.1 in
    let r = p.room_fits.some in
    let t = p.room_fits.tuples in
    (n, omega arith, record { heads = refl; links = refl })

pub loop-c-init : goal.loop-c-init
loop-c-init c = (filled-begins c.requires c.begin.ensures, refl, refl)

pub overflow_mul-m : goal.overflow_mul-m
overflow_mul-m c =
    let f = c.loop-c.invariant.0 in
    let q = f.room-is in
    let r = f.room_fits.most in
    omega arith

pub expand-m-requires : goal.expand-m-requires
expand-m-requires c =
    let l = c.loop-c in
    let h = c.loop-c-test.true in
    (l.invariant.0, omega arith)

pub returns-then-room-m : goal.returns-then-room-m
returns-then-room-m c =
    let g = c.args in
    fills-over {A = automaton g.a g.table.now g.marks.now} (c.loop-c.c + 1) (c.expand-m.ensures.over c.if-room-m.true)

pub overflow_add-c : goal.overflow_add-c
overflow_add-c c = let h = few (goal.at.overflow_add-c c).In-loop-c in omega arith

pub loop-c-smaller : goal.loop-c-smaller
loop-c-smaller c = let h = few (goal.at.loop-c-smaller c).In-loop-c in omega arith

pub loop-c-preserved : goal.loop-c-preserved
loop-c-preserved c =
    let l = c.loop-c in
    let e = c.expand-m in
    (e.ensures.fitting c.if-room-m.false, e.auto.tuples ∙ l.invariant.1, e.auto.nexts ∙ l.invariant.2)

pub returns : goal.returns
returns c =
    let a = c.args in
    let l = c.loop-c in
    let h = c.loop-c-test.false in
    fills-all l.invariant.0 (tracker_tables a.tuples.now a.nexts.now) (sym (l.invariant.1 ∙ c.begin.auto.tuples)) (sym l.invariant.2) (omega arith)
