-- The product is small. Assumes nothing.
use Prim.Native.Nat.{◌*◌, ◌≤◌}
use mathlib.Core.Path.{refl}
use native.Mathlib.Omega.{arith}
use Rattle.listing_lines.specs.PutLine.{line_bytes}
use Rattle.listing_text.specs.PutLaws.{listing-small}
use Rattle.listing_text.proofs.listing_length.Goals as goal
use Rattle.listing_text.proofs.listing_length.Goals.{Start}

small : (c : Start) → c.args.count * line_bytes c.args.n c.args.k ≤ 149504
small c = listing-small c.args.n c.args.k c.args.count c.requires

pub overflow_mul-result-3 : goal.overflow_mul-result-3
overflow_mul-result-3 c = omega (arith, small (goal.at.overflow_mul-result-3 c).Start)

pub overflow_add-result-3 : goal.overflow_add-result-3
overflow_add-result-3 c = omega (arith, small (goal.at.overflow_add-result-3 c).Start)

pub returns : goal.returns
returns c = refl
