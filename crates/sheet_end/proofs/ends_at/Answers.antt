-- A line starts at a, or the byte before it shows that none does; what stands there is told by `end-told`. Assumes nothing.
use Prim.Native.Nat.{◌-◌}
use mathlib.Core.Path.{◌≡◌}
use native.Mathlib.Omega.{arith}
use Rattle.sheet_end.specs.SplitLaws.{end-told}
use Rattle.sheet_end.proofs.ends_at.Goals as goal

pub returns : goal.returns
returns c =
    let a = c.args.a in
    end-told _ a c.starts_at.result (λ i p. let k : i ≡ a - 1 = omega arith in rw k (grind (arith, c.if-a-gt0.branch))) c.starts_at.ensures
