-- Storing the last k places from here on gives the whole column stored. Assumes nothing.
use Prim.Native.Nat.{◌+◌, ◌-◌, ◌/◌, ◌^◌}
use mathlib.Core.Path.{◌≡◌, sym, ◌∙◌, ap}
use native.Mathlib.Omega.{arith}
use Rattle.columns.specs.ColumnLaws.{power_pos, power-down, column-step, column-over}
use Rattle.columns.proofs.put_column.Goals as goal
use Rattle.columns.proofs.put_column.Goals.{In-loop-k}

-- the power of the next place
next : (c : In-loop-k) → c.loop-k.p / 10 ≡ 10 ^ (c.loop-k.k - 1)
next c = ap (λ x. x / 10) c.loop-k.invariant.0 ∙ power-down c.loop-k.k (c.loop-k.k - 1) (omega arith)

pub digit_byte-requires : goal.digit_byte-requires
digit_byte-requires c =
    (next (goal.at.digit_byte-requires c).In-loop-k, omega (arith, next (goal.at.digit_byte-requires c).In-loop-k, power_pos (c.loop-k.k - 1)))

pub loop-k-preserved : goal.loop-k-preserved
loop-k-preserved c =
    let l = c.loop-k in
    let v = c.args.v in
    let i = c.args.at + c.args.w - l.k in
    let here : c.args.at + c.args.w - 1 - (l.k - 1) ≡ i = omega arith in
    let behind : c.args.at + c.args.w - (l.k - 1) ≡ i + 1 = omega arith in (
      next (goal.at.loop-k-preserved c).In-loop-k,
      rw (c.digit_byte.ensures, here, behind) (sym (column-step l.out i v l.k (l.k - 1) (omega arith)) ∙ l.invariant.1),
    )

pub returns : goal.returns
returns c = sym (column-over c.loop-k.out (c.args.at + c.args.w - c.loop-k.k) c.args.v c.loop-k.k (omega arith)) ∙ c.loop-k.invariant.1
