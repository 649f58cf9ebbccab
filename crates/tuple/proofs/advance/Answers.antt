-- Each cell passed is a set, and replaced by its successors. Assumes nothing.
use mathlib.Core.Path.{◌≡◌}
use native.Mathlib.Omega.{arith}
use Rattle.tuple_record.specs.Record.{set_cells}
use Rattle.automaton.specs.SuccessorLaws.{successors-are}
use Rattle.tuple.specs.AdvanceLaws.{advance-none, advance-stop, advance-end, advance-more}
use Rattle.tuple.proofs.advance.Goals as goal

pub loop-i-init : goal.loop-i-init
loop-i-init c =
    let g = c.args in
    advance-none g.table.now g.letter g.w.now (omega arith)

pub returns-then-x-eq0 : goal.returns-then-x-eq0
returns-then-x-eq0 c =
    let g = c.args in
    advance-stop g.table.now g.letter g.w.now (omega arith) c.loop-i.invariant (omega arith) c.if-x-eq0.true

pub loop-i-preserved : goal.loop-i-preserved
loop-i-preserved c =
    let g = c.args in
    let next = advance-more g.table.now g.letter g.w.now (omega arith) c.loop-i.invariant (omega arith) c.if-x-eq0.false in
    let e = successors-are g.table.now g.letter _ _ (omega arith) c.successors.ensures in
    rw e next

pub returns : goal.returns
returns c =
    let g = c.args in
    let e : c.loop-i.i ≡ set_cells = omega arith in
    rw e at (advance-end g.table.now g.letter g.w.now (omega arith) c.loop-i.invariant e)
