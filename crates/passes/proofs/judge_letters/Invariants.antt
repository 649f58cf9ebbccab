-- The loop's invariant: `seen` tells the ends of the passes run apart, and `leasts` has their least colours. It ends since ends that differ are
-- no more than tuples. Assumes nothing.
use Prim.Native.Nat.{◌-◌}
use Rattle.passes.specs.PassLaws.{AfterPasses}
use Rattle.passes.proofs.judge_letters.Given as goal

abbrev pub invariant-loop-seen : goal.invariant-loop-seen
invariant-loop-seen l = AfterPasses l.tuples l.nexts l.count l.letters l.lead l.cycle l.seen l.leasts l.passes l.at

abbrev pub decreases-loop-seen : goal.decreases-loop-seen
decreases-loop-seen l = l.count - l.passes
