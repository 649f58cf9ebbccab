-- The walk along the chain of the digest passes no row that is looked for. Assumes nothing.
use Prim.Native.Nat.{◌-◌, ◌<◌}
use mathlib.Core.Path.{◌≡◌}
use native.Mathlib.Omega.{arith}
use Rattle.row_index.specs.IndexLaws.{walk_begins, walk-goes, walk_ends, walk-finds}
use Rattle.row_index.proofs.find.Goals as goal

pub overflow_cast-p : goal.overflow_cast-p
overflow_cast-p c = omega (arith, c.shared_slice_known-5-1.given c.args.h)

pub loop-p-init : goal.loop-p-init
loop-p-init c =
    let p = c.requires in
    walk_begins p.0 p.1

pub returns-then-same : goal.returns-then-same
returns-then-same c = walk-finds (omega arith) (c.same.ensures.0 c.if-same.true)

pub overflow_cast-p-in-loop-p : goal.overflow_cast-p-in-loop-p
overflow_cast-p-in-loop-p c = omega (arith, c.shared_slice_known-in-loop-p-1.given (c.loop-p.p - 1))

pub loop-p-smaller : goal.loop-p-smaller
loop-p-smaller c =
    let p = c.requires in
    let l = c.loop-p in
    let f : c.loop-p.p - 1 < c.args.m =
    omega arith in
    omega (arith, p.0.index.link-is (l.p - 1) f)

pub loop-p-preserved : goal.loop-p-preserved
loop-p-preserved c =
    let p = c.requires in
    let l = c.loop-p in
    walk-goes p.0 p.1 l.p (l.p - 1) l.invariant (omega arith)
    (c.same.ensures.1 c.if-same.false)

pub returns : goal.returns
returns c =
    let p = c.requires in
    let l = c.loop-p in
    let e : l.p ≡ 0 = omega arith in
    walk_ends p.0 p.1 (rw e at l.invariant)
