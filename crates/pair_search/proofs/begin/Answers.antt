-- The invariant: the pairs of initial states whose first state is below p are in the queue. Assumes nothing.
use Rattle.pair_search.specs.StartLaws.{start-empty, start-more}
use Rattle.pair_search.proofs.begin.Goals as goal

pub loop-p-init : goal.loop-p-init
loop-p-init c = start-empty c.requires.1

pub loop-p-preserved : goal.loop-p-preserved
loop-p-preserved c =
    let x = c.guarded in
    start-more c.loop-p.invariant c.requires.0 x.result x.ensures c.add_row-count.ensures
