-- The invariant: what the pair steps to is in the queue, for the letters and states of the first j steps. Assumes nothing.
use mathlib.Core.Path.{refl}
use native.Mathlib.Omega.{arith}
use Rattle.pair_search.specs.StepLaws.{step-taken, all-taken}
use Rattle.pair_search.proofs.expand.Goals as goal

pub loop-j-preserved : goal.loop-j-preserved
loop-j-preserved c =
    let p = c.requires in
    let l = c.loop-j in
    let x = c.guarded-next in
    step-taken p.fits p.some c.number-e.ensures refl l.j l.invariant.0 x.result (omega arith) x.ensures c.add_row-reached.ensures l.invariant.1

pub returns : goal.returns
returns c =
    let p = c.requires in
    let l = c.loop-j in
    all-taken p.fits p.some c.number-e.ensures refl l.j l.invariant.0 (omega arith) l.invariant.1
