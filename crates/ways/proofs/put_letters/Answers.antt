-- The letters are written from the last on: `Writing`. Assumes nothing.
use native.Mathlib.Omega.{arith}
use Rattle.ways.specs.SpellLaws.{writing-none, writing_more, writing-end}
use Rattle.ways.proofs.put_letters.Goals as goal

pub loop-left-init : goal.loop-left-init
loop-left-init c = writing-none c.requires

pub from-at-requires : goal.from-at-requires
from-at-requires c = (c.requires.down, c.loop-left.invariant.below)

pub loop-left-preserved : goal.loop-left-preserved
loop-left-preserved c = writing_more c.requires c.loop-left.invariant c.loop-left-test.true c.from-at.ensures

pub returns : goal.returns
returns c = writing-end c.requires c.loop-left.invariant (omega arith)
