-- The members of later places, the pass, and the colour. Assumes nothing.
use native.Mathlib.Omega.{arith}
use Rattle.tuple.specs.StepLaws.{settle-done}
use Rattle.tuple.proofs.settle.Goals as goal

pub returns : goal.returns
returns c =
    let g = c.args in
    let v = c.sweep in
    rw c.dead_or-colour.ensures (settle-done g.n g.p g.w.now v.new.w v.result.0 (omega arith) v.ensures)
