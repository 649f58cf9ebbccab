-- `names::parts_end` meets its contract. The loop's invariant: the parts from here on end where those from `start` on do. Assumes nothing.
use mathlib.Core.Path.{◌≡◌, sym, ◌∙◌}
use native.Mathlib.Omega.{arith}
use Rattle.names.specs.Scan.{width_at}
use Rattle.names.specs.ScanLaws.{parts-stop, parts_next, parts-full}
use Rattle.names.proofs.parts_end.Goals as goal
use Rattle.names.proofs.parts_end.Goals.{After-part_width-w}

-- what the call gives is the width of the part at this place
width :
    (c : After-part_width-w) →
    c.part_width-w.result ≡
    width_at c.args.s.now c.loop-turn.at
unfolding width_at
width c = cc

pub returns-then-w-eq0 : goal.returns-then-w-eq0
returns-then-w-eq0 c =
    let l = c.loop-turn in
    let a = c.args in
    (sym (parts-stop a.s.now l.at 25 l.turn (omega arith) (sym (width (goal.at.returns-then-w-eq0 c).After-part_width-w) ∙ c.if-w-eq0.true)) ∙ l.invariant.2, omega arith, omega arith)

pub loop-turn-preserved : goal.loop-turn-preserved
loop-turn-preserved c =
    let l = c.loop-turn in
    let a = c.args in (
      omega arith,
      omega arith,
      sym (parts_next a.s.now l.at 25 l.turn c.part_width-w.result (omega arith) (width (goal.at.loop-turn-preserved c).After-part_width-w) c.if-w-eq0.false) ∙ l.invariant.2,
    )

pub returns : goal.returns
returns c =
    let l = c.loop-turn in
    let a = c.args in
    (sym (parts-full a.s.now l.at 25 l.turn (omega arith)) ∙ l.invariant.2, omega arith, omega arith)
