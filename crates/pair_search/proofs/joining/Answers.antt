-- The invariant: the pair joins on no letter below l. Assumes nothing.
use native.Mathlib.Omega.{arith}
use borrow.Author.Count.{below_more}
use Rattle.pair_search.specs.JoinLaws.{common-joins, common-none}
use Rattle.pair_search.proofs.joining.Goals as goal

pub returns-then-common-ne0 : goal.returns-then-common-ne0
returns-then-common-ne0 c =
    record { low = omega arith; joins = common-joins c.common.ensures c.if-p-q.false c.if-common-ne0.true; none = c.loop-l.invariant }

pub loop-l-preserved : goal.loop-l-preserved
loop-l-preserved c = below_more _ _ c.loop-l.invariant (common-none c.common.ensures c.if-common-ne0.false)

pub returns : goal.returns
returns c = λ m h. c.loop-l.invariant m (omega arith)
