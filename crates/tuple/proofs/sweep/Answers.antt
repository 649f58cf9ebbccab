-- Before each turn: the sets closed up so far, and what is removed from the places left. Assumes nothing.
use Prim.Native.Nat.{◌+◌, ◌<◌}
use mathlib.Core.Logic.{inl, inr}
use native.Mathlib.Omega.{arith}
use Rattle.tuple.specs.SweepLaws.{Sweeping, sweep-none, sweep-turn, sweep-end}
use Rattle.tuple.proofs.sweep.Goals.{then-x-ne0, else-x-ne0}
use Rattle.tuple.proofs.sweep.Goals as goal

pub loop-i-init : goal.loop-i-init
loop-i-init c =
    let g = c.args in
    (omega arith, rw c.neutral-colour.ensures (sweep-none g.n g.p (g.p + 1) g.w.now (omega arith)))

pub loop-i-preserved : goal.loop-i-preserved
loop-i-preserved c =
    let left = c.minus-x in
    let g = c.args in
    let l = c.loop-i in
    let here : l.i < g.p + 1 = omega arith in
    let mark = c.is_marked-mark in
    let place = c.colour_at in
    let least = c.least-colour in
    let out = c.out_of-out in
    let turned : Sweeping g.n g.p (g.p + 1) g.w.now c.if-x-ne0.w least.result.0 out.result c.if-x-ne0.j (l.i + 1) =
    sweep-turn g.n g.p (g.p + 1) g.w.now (omega arith) l.invariant.1 left.result least.result.0 out.result _ place.result.0
    mark.result here left.ensures (c.requires.4 l.i here) mark.ensures place.ensures least.ensures out.ensures
    (elim c.if-x-ne0.branch [ then-x-ne0 t ↦ inl (t.if-x-ne0.true, t.w-is, t.j-is) | else-x-ne0 t ↦ inr (t.if-x-ne0.false, t.w-is, t.j-is) ]) in
    (omega (arith, turned.passed), turned)

pub returns : goal.returns
returns c =
    let g = c.args in
    sweep-end g.n g.p (g.p + 1) g.w.now (omega arith) c.loop-i.invariant.1 (omega arith)
