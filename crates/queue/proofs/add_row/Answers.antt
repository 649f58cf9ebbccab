-- The invariant: the pairs of p and the members below q are in the queue. Assumes nothing.
use Prim.Native.Nat.{ℕ}
use mathlib.Core.Path.{◌≡◌, sym, ◌∙◌, subst}
use native.Mathlib.Omega.{arith}
use Rattle.sets.specs.TestLaws.{within-is}
use Rattle.queue.specs.Queue.{companions, Below, Longer}
use Rattle.queue.specs.RowLaws.{unchanged, row_more, open-longer}
use Rattle.queue.proofs.add_row.Goals as goal

pub bounds-queue-p : goal.bounds-queue-p
bounds-queue-p c =
    let s = c.requires.0.queue.size in
    let h = c.requires.0.state in
    omega arith

pub returns-then-within : goal.returns-then-within
returns-then-within c =
    let a = c.args in
    let w = within-is a.set (companions a.queue.now a.p) (rw (sym c.within.ensures ∙ c.if-within.true) tt) in
    unchanged (Below a.set 16) c.requires.0 (λ r s. w r s.1)

pub loop-q-init : goal.loop-q-init
loop-q-init c = unchanged (Below c.args.set 0) c.requires.0 (λ r s. absurd (omega (arith, s.0)))

pub add-reached-requires : goal.add-reached-requires
add-reached-requires c =
    let p = c.requires in
    (open-longer p.0.state p.0.deep c.loop-q.invariant, omega arith, p.1)

pub loop-q-preserved : goal.loop-q-preserved
loop-q-preserved c = row_more c.args.set c.loop-q.q c.loop-q.invariant c.add-reached.ensures

pub returns : goal.returns
returns c =
    let a = c.args in
    let l = c.loop-q in
    let e : l.q ≡ 16 = omega arith in
    subst (λ (q : ℕ). Longer a.queue.now a.count a.depth a.p (Below a.set q) a.origin l.queue l.reached) e l.invariant
