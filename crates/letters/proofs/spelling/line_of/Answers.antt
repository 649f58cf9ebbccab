-- The loop's invariant: as many lines below the place reached as are left to pass stands the line sought. Assumes nothing.
use Prim.Native.Nat.{◌+◌, ◌-◌}
use mathlib.Core.Path.{◌≡◌, sym, ap, ◌∙◌}
use native.Mathlib.Omega.{arith}
use Rattle.letters.specs.Spelling.{line_below}
use Rattle.letters.specs.SpellingLaws.{below_next, line-below-none, below-done}
use Rattle.letters.proofs.spelling.line_of.Goals as goal

pub returns-in_default : goal.returns-in_default
returns-in_default c =
    let l = c.loop in
    let a = c.args in (
      sym
          (line-below-none a.s.now l.at (a.letter - l.counter) (omega arith) (sym c.name_end.ensures.0 ∙ c.in_default.is)) ∙
          l.invariant.1,
      omega arith,
    )

pub loop-preserved : goal.loop-preserved
loop-preserved c =
    let l = c.loop in
    let a = c.args in
    let left : a.letter - (l.counter + 1) ≡ a.letter - l.counter - 1 = omega arith in (
      omega (arith, c.in-Some.ensures),
      ap (line_below a.s.now (c.in-Some.e + 1)) left
          ∙ sym (below_next a.s.now l.at (a.letter - l.counter) (omega arith) c.in-Some.e (sym c.name_end.ensures.0 ∙ c.in-Some.is))
          ∙ l.invariant.1,
    )

pub returns : goal.returns
returns c =
    let l = c.loop in
    let a = c.args in
    (sym (below-done a.s.now l.at (a.letter - l.counter) (omega arith)) ∙ l.invariant.1, omega arith)
