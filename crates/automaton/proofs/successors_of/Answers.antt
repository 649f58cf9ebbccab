-- `found` holds the successors of the members passed; from the first 2^q above the set on there is none left. Assumes nothing.
use Prim.Native.Nat.{◌^◌, ◌<◌}
use mathlib.Core.Path.{◌≡◌, sym, ◌∙◌}
use native.Mathlib.Omega.{arith}
use Rattle.automaton.specs.SuccessorLaws.{below_none, below_more, below_all}
use Rattle.automaton.proofs.successors_of.Goals as goal

pub loop-q-init : goal.loop-q-init
loop-q-init c = sym (below_none _ _ _)

pub returns-then-set-single : goal.returns-then-set-single
returns-then-set-single c =
    let a = c.args in
    let l = c.loop-q in
    let h : a.set < 2 ^ l.q = (let e = c.single.ensures in omega arith) in
    l.invariant ∙ below_all a.table.now a.letter a.set l.q h (omega arith)

pub loop-q-preserved : goal.loop-q-preserved
loop-q-preserved c =
    let a = c.args in
    let l = c.loop-q in
    below_more a.table.now a.letter a.set l.q l.invariant c.with_successors-found.ensures

pub returns : goal.returns
returns c =
    let a = c.args in
    let l = c.loop-q in
    let e : l.q ≡ 16 = omega arith in
    l.invariant ∙ rw e (below_all a.table.now a.letter a.set 16 c.ranges.set.fits (omega arith))
