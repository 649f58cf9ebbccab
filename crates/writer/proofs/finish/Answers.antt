-- `writer::finish` meets its contract: what lies behind the text is cleared. Assumes nothing.
use mathlib.Core.Path.{◌≡◌, refl}
use native.Mathlib.Omega.{arith}
use lib.ListN.{length}
use Rattle.gate.specs.GateLaws.{text-lent}
use Rattle.automaton.specs.Automaton.{automaton}
use Rattle.sheet_text.specs.Text.{rows_text}
use Rattle.writer.proofs.finish.Goals as goal
use Rattle.writer.proofs.finish.Goals.{After-text_length-count}

-- the length of the text
size : (c : After-text_length-count) →
    let a = c.args in
    c.text_length-count.result ≡ length (rows_text (automaton a.a a.table.now a.marks.now) a.rows.now)
size c = c.text_length-count.ensures c.args.marks.now

pub shape_of-out-then-out-count : goal.shape_of-out-then-out-count
shape_of-out-then-out-count c = c.clear_bytes.auto.bytes

pub returns-then-out-count : goal.returns-then-out-count
returns-then-out-count c =
    (omega (arith, size (goal.at.returns-then-out-count c).After-text_length-count), refl, c.clear_bytes.ensures)

pub put_text-requires : goal.put_text-requires
put_text-requires c =
    (c.requires.0, c.requires.1, omega (arith, size (goal.at.put_text-requires c).After-text_length-count))

pub returns : goal.returns
returns c =
    let a = c.args in
    let n = size (goal.at.returns c).After-text_length-count in
    (n, omega (arith, n), text-lent (rows_text (automaton a.a a.table.now a.marks.now) a.rows.now) a.out.now c.put_text.ensures n (omega arith) c.clear_bytes-2.ensures)
