-- `found` holds the successors of the members passed; where the next power of 2 is above the set none is left. Assumes nothing.
use Prim.Native.Nat.{ℕ, ◌*◌, ◌^◌, ◌<◌}
use mathlib.Core.Path.{◌≡◌, refl, sym, ap, ◌∙◌}
use native.Mathlib.Omega.{arith}
use native.Mathlib.Decide.{dec_lt}
use lib.Pow.{pow-add}
use Rattle.automaton.specs.SuccessorLaws.{below_none, below_more, below_all}
use Rattle.automaton.proofs.marked_of.Goals as goal
use Rattle.automaton.proofs.marked_of.Goals.{In-loop-power}

-- the power of a state that is left is at most the set, which is below 2^16
small : (c : In-loop-power) → c.loop-power.q < 16
small c = by (dec_lt c.loop-power.q 16)
  where
    by : Dec (c.loop-power.q < 16) → c.loop-power.q < 16
    by (yes h) = h
    by (no h) =
        let l = c.loop-power in
        let e : l.q ≡ 16 = omega (arith, l.invariant.0) in
        let p : l.power ≡ 65536 = l.invariant.1 ∙ ap (λ (n : ℕ). 2 ^ n) e in
        absurd (omega (arith, c.loop-power-test.true, l.invariant.3, c.ranges.set.fits))

pub loop-power-init : goal.loop-power-init
loop-power-init c = (omega arith, refl, sym (below_none _ _ _), refl)

pub with_successors-found-requires : goal.with_successors-found-requires
with_successors-found-requires c = (c.requires, small (goal.at.with_successors-found-requires c).In-loop-power)

pub overflow_mul-power : goal.overflow_mul-power
overflow_mul-power c =
    let l = c.loop-power in
    omega (arith, c.loop-power-test.true, l.invariant.3, c.ranges.set.fits)

pub loop-power-smaller : goal.loop-power-smaller
loop-power-smaller c = omega (arith, small (goal.at.loop-power-smaller c).In-loop-power)

pub loop-power-preserved : goal.loop-power-preserved
loop-power-preserved c =
    let a = c.args in
    let l = c.loop-power in (
      omega (arith, small (goal.at.loop-power-preserved c).In-loop-power),
      ap (λ (x : ℕ). x * 2) l.invariant.1 ∙ sym (pow-add 2 l.q 1),
      below_more a.marks.now a.letter a.set l.q l.invariant.2 c.with_successors-found.ensures,
      l.invariant.3,
    )

pub returns : goal.returns
returns c =
    let a = c.args in
    let l = c.loop-power in
    let h : a.set < 2 ^ l.q = omega (arith, l.invariant.1, l.invariant.3, c.loop-power-test.false) in
    l.invariant.2 ∙ below_all a.marks.now a.letter a.set l.q h l.invariant.0
