-- The last bit of the shifted mask is its remainder by 2. Assumes nothing.
use Prim.Native.Nat.{◌/◌, ◌^◌}
use borrow.Author.Tests.{eqb-true, eqb-false}
use lib.Bits.{and_mask}
use Rattle.sets.specs.Sets.{bit}
use Rattle.sets.proofs.contains.Goals as goal

pub returns : goal.returns
unfolding bit
returns c =
    let a = c.args in
    rw (and_mask (a.x / 2 ^ a.q) 1) (eqb-true (bit a.x a.q) 1, eqb-false (bit a.x a.q) 1)
