-- The loop's invariant: the least of the cells before i. Assumes nothing.
use mathlib.Core.Path.{◌≡◌}
use Prim.Native.Nat.{ℕ, ◌+◌}
use Rattle.std.specs.Prelude.{min}
use borrow.Author.Rules.{rules}
use native.Mathlib.Omega.{arith}
use lib.ListN.{get_or}
use Rattle.passes.specs.Passes.{LeastOf}
use Rattle.passes.specs.LeastLaws.{least-one, least_more}
use Rattle.passes.proofs.least_of.Goals as goal

more : (f : ℕ → ℕ) (a b v : ℕ) {w : ℕ} → LeastOf f a b v → w ≡ min v (f b) → LeastOf f a (b + 1) w
more f a b v h e = rw e (least_more f a b v h)

pub loop-i-init : goal.loop-i-init
loop-i-init c =
    let a = c.args in
    least-one (λ j. get_or a.cells.now j 0) a.first

pub loop-i-preserved : goal.loop-i-preserved
loop-i-preserved c =
    let a = c.args in
    let v = c.loop-i in
    more (λ j. get_or a.cells.now j 0) a.first v.i v.least v.invariant (search rules)

pub returns : goal.returns
returns c =
    let a = c.args in
    let v = c.loop-i in
    let e : v.i ≡ a.last + 1 = omega arith in
    rw e at v.invariant
