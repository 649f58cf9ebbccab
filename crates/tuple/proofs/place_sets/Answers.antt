-- The successors, and the new set at the place behind them. Assumes nothing.
use native.Mathlib.Omega.{arith}
use Rattle.tuple.specs.StepLaws.{cells-length, count-few, place-done}
use Rattle.tuple.proofs.place_sets.Goals as goal

pub bounds-w-0 : goal.bounds-w-0
bounds-w-0 c = omega (arith, cells-length c.requires)

pub advance-p-requires : goal.advance-p-requires
advance-p-requires c =
    let s = c.requires in
    (omega (arith, s.letter, s.fits.range.3), cells-length s)

pub bounds-w-0-2 : goal.bounds-w-0-2
bounds-w-0-2 c =
    let s = c.requires in
    omega (arith, c.advance-p.auto.w, cells-length s)

pub recurrent_of-requires : goal.recurrent_of-requires
recurrent_of-requires c =
    let s = c.requires in
    omega (arith, s.letter, s.fits.range.3)

pub offset_bounds-w-p : goal.offset_bounds-w-p
offset_bounds-w-p c =
    let s = c.requires in
    omega (arith, count-few s c.advance-p.ensures)

pub bounds-w-p : goal.bounds-w-p
bounds-w-p c =
    let s = c.requires in
    let v = c.advance-p in
    omega (arith, v.auto.w, cells-length s, count-few s v.ensures)

pub returns : goal.returns
returns c =
    let s = c.requires in
    rw c.recurrent_of.ensures (place-done s c.advance-p.ensures)
