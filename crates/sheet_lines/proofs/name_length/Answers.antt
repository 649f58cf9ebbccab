-- `sheet_lines::name_length` meets its contract. The loop's invariant: what is passed and what is left of the row up to its first zero
-- make the whole name. Assumes nothing.
use mathlib.Core.Path.{ap, ◌∙◌}
use native.Mathlib.Omega.{arith}
use native.Mathlib.Nat.{zero-add}
use lib.ListN.{length}
use Rattle.sheet_lines.specs.RowNameLaws.{rest-whole, rest-zero, rest-byte, rest-none}
use Rattle.sheet_lines.proofs.name_length.Goals as goal

pub loop-i-init : goal.loop-i-init
loop-i-init c = zero-add _ ∙ ap length (rest-whole c.args.rows.now c.args.l)

pub returns-then-rows-l-eq0 : goal.returns-then-rows-l-eq0
returns-then-rows-l-eq0 c =
    let a = c.args in
    let none = rest-zero a.rows.now a.l c.loop-i.i (omega arith) (omega arith) c.if-rows-l-eq0.true in
    (omega arith, omega arith)

pub loop-i-preserved : goal.loop-i-preserved
loop-i-preserved c =
    let a = c.args in
    let more = rest-byte a.rows.now a.l c.loop-i.i (omega arith) (omega arith) c.if-rows-l-eq0.false in
    omega arith

pub returns : goal.returns
returns c =
    let a = c.args in
    let none = rest-none a.rows.now a.l c.loop-i.i (omega arith) (omega arith) in
    (omega arith, omega arith)
