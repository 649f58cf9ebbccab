-- What is left to mix in gives the whole. Assumes nothing.
use Prim.Native.Nat.{ℕ, ◌+◌, ◌-◌}
use mathlib.Core.Path.{◌≡◌, sym, ap, ◌∙◌}
use native.Mathlib.Omega.{arith}
use Rattle.tuple_record.specs.Record.{set_cells}
use Rattle.row_index.specs.Digest.{mix_from}
use Rattle.row_index.specs.DigestLaws.{mix-stops, mix-more}
use Rattle.row_index.proofs.mixed_sets.Goals as goal

pub returns-then-x-eq0 : goal.returns-then-x-eq0
returns-then-x-eq0 c =
    let l = c.loop-i in
    (sym (mix-stops c.args.row.now l.h l.i c.loop-i-test.true c.if-x-eq0.true) ∙ l.invariant.1, l.invariant.0)

pub loop-i-preserved : goal.loop-i-preserved
loop-i-preserved c =
    let l = c.loop-i in
    let row = c.args.row.now in (
      c.mixed-h.ensures.1,
      ap (λ (h : ℕ). mix_from row h (l.i + 1) (set_cells - (l.i + 1))) c.mixed-h.ensures.0
          ∙ sym (mix-more row l.h l.i c.loop-i-test.true c.if-x-eq0.false)
          ∙ l.invariant.1,
    )

pub returns : goal.returns
unfolding mix_from
returns c =
    let l = c.loop-i in
    let k : set_cells - l.i ≡ 0 = omega arith in
    (rw k at l.invariant.1, l.invariant.0)
