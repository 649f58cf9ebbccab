-- No line that starts before `a` is just END. Assumes nothing.
use native.Mathlib.Omega.{arith}
use mathlib.Core.Path.{refl}
use Rattle.sheet_end.specs.SplitLaws.{end-within, none_below}
use Rattle.sheet_end.specs.Split.{SheetEnds}
use Rattle.sheet_end.proofs.sheet_end.Goals as goal

pub returns-then-ends_at : goal.returns-then-ends_at
returns-then-ends_at c =
    let e = c.ends_at.ensures.0 c.if-ends_at.true in
    (SheetEnds.behind c.loop-a.a refl e c.loop-a.invariant, end-within _ _ e)

pub returns : goal.returns
returns c = (SheetEnds.nowhere refl (none_below _ (λ b l. c.loop-a.invariant b (omega arith))), omega arith)
