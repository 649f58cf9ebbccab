-- The loop's invariant: `seen` tells the ends of the passes run apart, and `leasts` has their least colours. It ends since ends that differ are
-- no more than tuples. Assumes nothing.
use mathlib.Core.Path.{refl}
use Prim.Native.Nat.{◌≤◌, ◌<◌}
use native.Mathlib.Omega.{arith}
use lib.ListN.{get_or}
use Rattle.passes.specs.PassLaws.{passes_none, passes-few, passes-more, repeat-range, repeat-judged}
use Rattle.passes.proofs.judge_letters.Goals as goal
use Rattle.passes.proofs.judge_letters.Goals.{After-loop-seen, In-loop-seen}

-- while no end is met again the passes are fewer than the tuples
few : (c : In-loop-seen) → c.loop-seen.passes < c.args.count
few c = let pre = c.requires in passes-few pre.0 pre.1 c.loop-seen.invariant c.loop-seen-test.true

-- the end met again tells a pass that was run
range : (c : After-loop-seen) →
    let l = c.loop-seen in
    (get_or l.seen l.at 0 ≤ l.passes) × (l.passes < 1025)
range c = let pre = c.requires in repeat-range pre.0 pre.1 c.loop-seen.invariant c.loop-seen-test.false

pub loop-seen-init : goal.loop-seen-init
loop-seen-init c =
    let pre = c.requires in
    passes_none pre.0 pre.1 c.follow-at.result c.follow-at.ensures

pub bounds-leasts-passes : goal.bounds-leasts-passes
bounds-leasts-passes c = let l = few (goal.at.bounds-leasts-passes c).In-loop-seen in omega arith

pub loop-seen-smaller : goal.loop-seen-smaller
loop-seen-smaller c = let l = few (goal.at.loop-seen-smaller c).In-loop-seen in omega arith

pub loop-seen-preserved : goal.loop-seen-preserved
loop-seen-preserved c =
    let pre = c.requires in
    passes-more pre.0 pre.1 c.loop-seen.invariant c.loop-seen-test.true c.follow-end.result c.follow-end.ensures

pub overflow_cast-seen-2 : goal.overflow_cast-seen-2
overflow_cast-seen-2 c = let l = range (goal.at.overflow_cast-seen-2 c).After-loop-seen in omega arith

pub least_of-least-requires : goal.least_of-least-requires
least_of-least-requires c =
    let l = range (goal.at.least_of-least-requires c).After-loop-seen in
    (l.0, omega (arith, c.loop-seen.invariant.leasts-cells, l.1))

pub returns : goal.returns
returns c =
    let pre = c.requires in
    repeat-judged pre.0 pre.1 c.loop-seen.invariant c.loop-seen-test.false _ refl c.least_of-least.ensures c.answer_of.ensures
