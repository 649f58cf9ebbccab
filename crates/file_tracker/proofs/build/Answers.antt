-- Question 1 is answered first, and the others behind it. Assumes nothing.
use mathlib.Core.Path.{refl}
use native.Mathlib.Omega.{arith}
use Rattle.building.specs.FileBuild.{Builds}
use Rattle.file_tracker.proofs.build.Goals as goal

pub returns-then-not-enough : goal.returns-then-not-enough
returns-then-not-enough c = Builds.short (c.enough.ensures.1 c.if-not-enough.true) refl refl

pub slice_bounds-build_long-end : goal.slice_bounds-build_long-end
slice_bounds-build_long-end c = refl

pub build_long-requires : goal.build_long-requires
build_long-requires c = (c.enough.ensures.0 c.if-not-enough.false, omega arith)

pub returns : goal.returns
returns c = c.build_long.ensures.0
