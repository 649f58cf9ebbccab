-- The invariant: nothing that begins an endless path has been taken away, and the states below q stay. A state that does not stay makes the
-- set a smaller number. Assumes nothing.
use Prim.Native.Nat.{ℕ, ◌^◌}
use mathlib.Core.Path.{◌≡◌, sym, ap, subst, ◌∙◌}
use native.Mathlib.Omega.{arith}
use Rattle.sets.specs.Sets.{minus_of}
use Rattle.automaton.specs.Graph.{graph}
use Rattle.endless.specs.Closed.{Narrowed}
use Rattle.endless.specs.ClosedLaws.{narrowed-start, narrowed-more, narrowed-less, narrowed-end, set-falls}
use Rattle.endless.proofs.states.Goals as goal
use Rattle.endless.proofs.states.Goals.{After-minus-set}

-- the set without the state that does not stay
taken : (c : After-minus-set) → c.minus-set.result ≡ minus_of c.loop-q.set
    (2 ^ c.loop-q.q)
taken c = c.minus-set.ensures ∙ ap (minus_of _) c.single.ensures

pub below-set-requires : goal.below-set-requires
below-set-requires c = let r = c.requires.0.range in (r.0, r.1)

pub loop-q-init : goal.loop-q-init
loop-q-init c = (omega arith, narrowed-start c.below-set.ensures)

pub loop-q-smaller-then-stays : goal.loop-q-smaller-then-stays
loop-q-smaller-then-stays c =
    let n = c.requires.0.range.1 in
    omega arith

pub loop-q-preserved-then-stays : goal.loop-q-preserved-then-stays
loop-q-preserved-then-stays c =
    let l = c.loop-q.invariant in
    (omega arith, narrowed-more l.1 (c.stays.ensures.0 c.if-stays.true))

pub single-requires : goal.single-requires
single-requires c =
    let n = c.requires.0.range.1 in
    omega arith

pub loop-q-smaller : goal.loop-q-smaller
loop-q-smaller c =
    let h = set-falls (c.stays.ensures.1 c.if-stays.false) in
    let e = taken (goal.at.loop-q-smaller c).After-minus-set in
    omega arith

pub loop-q-preserved : goal.loop-q-preserved
loop-q-preserved c =
    let l = c.loop-q.invariant in
    let a = c.args in
    let h = narrowed-less (c.stays.ensures.1 c.if-stays.false) l.1 in
    (omega arith, subst (λ (x : ℕ). Narrowed (graph a.g a.table.now) x 0) (sym (taken (goal.at.loop-q-preserved c).After-minus-set)) h)

pub returns : goal.returns
returns c = narrowed-end c.loop-q.invariant.1 (omega arith)
