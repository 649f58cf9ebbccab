-- The way back is followed, and each step leads down: `Followed`. Assumes nothing.
use native.Mathlib.Omega.{arith}
use Rattle.ways.specs.SpellLaws.{followed-none, followed-more, followed-end}
use Rattle.ways.proofs.depth.Goals as goal

pub loop-at-init : goal.loop-at-init
loop-at-init c = followed-none c.args.tuples.now c.requires.1

pub from-at-requires : goal.from-at-requires
from-at-requires c = (c.requires.0, let h = c.loop-at.invariant.below in omega arith)

pub overflow_add-d : goal.overflow_add-d
overflow_add-d c = let h = c.loop-at.invariant.below in let m = c.requires.0.most in omega arith

pub loop-at-smaller : goal.loop-at-smaller
loop-at-smaller c =
    let l = c.loop-at in
    let h = l.invariant.below in
    let down = c.requires.0.down l.at c.loop-at-test.true (omega arith) in
    omega (arith, c.from-at.ensures)

pub loop-at-preserved : goal.loop-at-preserved
loop-at-preserved c = followed-more c.loop-at.invariant c.requires.0 c.loop-at-test.true c.from-at.ensures

pub returns : goal.returns
returns c = followed-end c.loop-at.invariant (omega arith)
