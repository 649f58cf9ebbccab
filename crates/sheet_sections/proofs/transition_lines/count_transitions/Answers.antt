-- `sheet_sections::transition_lines::count_transitions` meets its contract. The loop's invariant: what is counted and what is left make all transitions.
-- Assumes nothing.
use Prim.Native.Nat.{ℕ}
use mathlib.Core.Path.{◌≡◌, sym, ap, ◌∙◌}
use mathlib.Core.List.{List, []}
use native.Mathlib.Omega.{arith}
use native.Mathlib.Nat.{zero-add}
use lib.ListN.{length}
use Rattle.format.specs.Written.{most_transitions}
use Rattle.sheet_sections.specs.Places.{transitions_from}
use Rattle.sheet_sections.specs.PlacesLaws.{count_next, count-last}
use Rattle.sheet_sections.specs.LengthLaws.{transitions_of-most}
use Rattle.sheet_sections.proofs.transition_lines.count_transitions.Goals as goal

pub loop-i-init : goal.loop-i-init
loop-i-init c =
    let first = c.next_place-i.ensures in
    (first.stop, λ marks. zero-add _ ∙ sym (ap length (first.none_before marks)))

pub overflow_add-count : goal.overflow_add-count
overflow_add-count c =
    let most = transitions_of-most c.args.table.now [] most_transitions 0 in
    omega (arith, c.loop-i.invariant.1 [])

pub loop-i-preserved : goal.loop-i-preserved
loop-i-preserved c =
    let first = c.next_place-i-in-loop-i.ensures in
    let l = c.loop-i in
    (first.stop, λ marks. omega (arith, l.invariant.1 marks, count_next marks l.invariant.0 (omega arith) first))

pub returns : goal.returns
returns c =
    let l = c.loop-i in
    let T = c.args.table.now in
    let all : (marks : List ℕ) → l.count ≡ length (transitions_from T marks 0) = λ marks. omega (arith, l.invariant.1 marks, count-last marks l.invariant.0 (omega arith)) in
    (all, omega (arith, all [], transitions_of-most T [] most_transitions 0))
