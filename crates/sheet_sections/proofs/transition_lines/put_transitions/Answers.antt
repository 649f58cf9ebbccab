-- `sheet_sections::transition_lines::put_transitions` meets its contract. The loop's invariant: storing the lines that are left gives all lines stored.
-- Assumes nothing.
use mathlib.Core.Path.{refl, sym, ◌∙◌}
use native.Mathlib.Omega.{arith}
use Rattle.sheet_sections.specs.PlacesLaws.{bytes_next, bytes-here, bytes-last, lines_next, lines-last}
use Rattle.sheet_sections.proofs.transition_lines.put_transitions.Goals as goal

pub loop-i-init : goal.loop-i-init
loop-i-init c =
    let first = c.next_place-i.ensures in
    let none = first.none_before c.args.marks.now in
    (first.stop, refl, rw none, rw none)

pub put_transition-requires : goal.put_transition-requires
put_transition-requires c =
    let s = c.args in
    let some = bytes-here s.marks.now c.loop-i.invariant.0 (omega arith) s.edition in
    (omega arith, omega arith, omega arith)

pub overflow_add-at : goal.overflow_add-at
overflow_add-at c =
    let s = c.args in
    let some = bytes-here s.marks.now c.loop-i.invariant.0 (omega arith) s.edition in
    omega arith

pub loop-i-preserved : goal.loop-i-preserved
loop-i-preserved c =
    let l = c.loop-i in
    let put = c.put_transition in
    let first = c.next_place-i-in-loop-i.ensures in
    let width = c.transition_width-width.ensures.0 in
    let s = c.args in
    let next = bytes_next s.marks.now l.invariant.0 (omega arith) first s.edition l.at in
    let lines = lines_next s.marks.now l.invariant.0 (omega arith) first s.edition l.out l.at in
    (first.stop, put.auto.out ∙ l.invariant.1, rw width (next ∙ l.invariant.2), rw (put.ensures, width) (sym lines ∙ l.invariant.3))

pub returns : goal.returns
returns c =
    let l = c.loop-i in
    let s = c.args in
    let none = bytes-last s.marks.now l.invariant.0 (omega arith) s.edition in
    (omega arith, sym (lines-last s.marks.now l.invariant.0 (omega arith) s.edition l.out l.at) ∙ l.invariant.3)
