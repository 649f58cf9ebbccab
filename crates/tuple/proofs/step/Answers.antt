-- Points 1 and 2, then points 3 to 5. Assumes nothing.
use mathlib.Core.Path.{◌∙◌}
use Rattle.tuple.specs.StepLaws.{cells-length, placed-few, step-done}
use Rattle.tuple.proofs.step.Goals as goal

pub settle-requires : goal.settle-requires
settle-requires c =
    let s = c.requires in
    let v = c.place_sets-p in
    (s.fits.range.1, placed-few s v.ensures, v.auto.w ∙ cells-length s)

pub returns : goal.returns
returns c =
    let s = c.requires in
    c.settle.ensures ∙ step-done s c.place_sets-p.ensures
