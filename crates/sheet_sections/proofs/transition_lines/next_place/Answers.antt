-- `sheet_sections::transition_lines::next_place` meets its contract. The loop's invariant: no transition stands at the places passed. Assumes nothing.
use Prim.Native.Nat.{◌/◌, ◌%◌}
use lib.ListN.{get_or}
use mathlib.Core.Path.{refl, ◌∙◌}
use native.Mathlib.Omega.{arith}
use Rattle.sets.specs.SetLaws.{bit-out}
use Rattle.sheet_sections.specs.PlacesLaws.{place-empty, cell-empty}
use Rattle.sheet_sections.proofs.transition_lines.next_place.Goals as goal

pub loop-i-init : goal.loop-i-init
loop-i-init c = (omega arith, omega arith, λ marks. refl)

pub loop-i-preserved-then-set-eq0 : goal.loop-i-preserved-then-set-eq0
loop-i-preserved-then-set-eq0 c =
    let l = c.loop-i in
    let T = c.args.table.now in
    (omega arith, omega arith, λ marks. l.invariant.2 marks ∙ cell-empty T marks l.i (omega arith) c.if-set-eq0.true)

pub returns-then-contains : goal.returns-then-contains
returns-then-contains c =
    let l = c.loop-i in
    record {
      from = omega arith;
      stop = record { most = omega arith; there = λ _. c.contains.ensures.0 c.if-contains.true };
      none_before = l.invariant.2;
    }

pub loop-i-preserved : goal.loop-i-preserved
loop-i-preserved c =
    let l = c.loop-i in
    let T = c.args.table.now in
    let z = bit-out (get_or T (l.i / 16) 0) (l.i % 16) (c.contains.ensures.1 c.if-contains.false) in
    (omega arith, omega arith, λ marks. l.invariant.2 marks ∙ place-empty T marks l.i (omega arith) z)

pub returns : goal.returns
returns c =
    let l = c.loop-i in
    record { from = omega arith; stop = record { most = omega arith; there = λ h. absurd (omega arith) }; none_before = l.invariant.2 }
