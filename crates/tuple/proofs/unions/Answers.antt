-- From the last place on: the cells passed have the members of the places behind them. Assumes nothing.
use mathlib.Core.Path.{sym, ◌∙◌}
use native.Mathlib.Omega.{arith}
use Rattle.tuple.specs.UnionLaws.{unions-none, unions-more, unions-set}
use Rattle.tuple.proofs.unions.Goals as goal

pub loop-i-init : goal.loop-i-init
loop-i-init c =
    let g = c.args in
    (sym (unions-none g.w.now g.count), λ j a b. absurd (omega arith))

pub loop-i-preserved : goal.loop-i-preserved
loop-i-preserved c =
    let g = c.args in
    let l = c.loop-i in (
      c.union-all.ensures ∙ unions-more g.w.now g.count l.i l.all (omega arith) (omega arith) (omega arith) l.invariant.0,
      unions-set g.w.now g.count l.i l.all l.later (omega arith) (omega arith) l.invariant.0 l.invariant.1,
    )

pub returns : goal.returns
returns c j h = c.loop-i.invariant.1 j (omega arith) h
