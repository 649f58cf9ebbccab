-- The loop's invariant: the chain of the letter reached ends where the whole chain does. Assumes nothing.
use mathlib.Core.Path.{refl, sym, ◌∙◌}
use native.Mathlib.Omega.{arith}
use Rattle.superseding.specs.Superseding.{superseding_in}
use Rattle.superseding.specs.SupersedingLaws.{chain-on, chain-falls, chain-out}
use Rattle.superseding.proofs.final_letter.Goals as goal

pub loop-last-init : goal.loop-last-init
loop-last-init c = (omega arith, c.superseding-by.ensures.0, refl)

pub superseding-by-requires-in-loop-last : goal.superseding-by-requires-in-loop-last
superseding-by-requires-in-loop-last c = omega (arith, c.if-by-lt8.true)

pub loop-last-preserved : goal.loop-last-preserved
loop-last-preserved c =
    let l = c.loop-last in
    let a = c.args in
    let h = c.if-by-lt8.true in
    (h, c.superseding-by-in-loop-last.ensures.0, sym (chain-on (superseding_in a.rows.now) l.last l.by l.invariant.1 c.loop-last-test.true h) ∙ l.invariant.2)

pub returns-else-by-lt8 : goal.returns-else-by-lt8
returns-else-by-lt8 c =
    let l = c.loop-last in
    let a = c.args in
    let h = c.if-by-lt8.false in
    (sym (chain-out (superseding_in a.rows.now) l.last l.by l.invariant.1 h l.invariant.0) ∙ l.invariant.2, l.invariant.0)

pub returns-after-loop-last : goal.returns-after-loop-last
returns-after-loop-last c =
    let l = c.loop-last in
    let a = c.args in
    (sym (chain-falls (superseding_in a.rows.now) l.last l.by l.invariant.1 c.loop-last-test.false) ∙ l.invariant.2, l.invariant.0)
