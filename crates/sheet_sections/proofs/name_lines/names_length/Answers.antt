-- `sheet_sections::name_lines::names_length` meets its contract. The loop's invariant: what is counted and the lines that are left make all lines.
-- Assumes nothing.
use mathlib.Core.Path.{ap, ◌∙◌}
use native.Mathlib.Omega.{arith}
use native.Mathlib.Nat.{zero-add, sub-zero}
use lib.ListN.{length}
use Rattle.sheet_sections.specs.RowNamesLaws.{names-last, names-length-next}
use Rattle.sheet_sections.proofs.name_lines.names_length.Goals as goal

pub loop-l-init : goal.loop-l-init
loop-l-init c = (omega arith, zero-add _ ∙ rw sub-zero)

pub loop-l-preserved : goal.loop-l-preserved
loop-l-preserved c =
    let l = c.loop-l in
    let a = c.args in
    let next = names-length-next a.rows.now a.k l.l (omega arith) in
    (omega arith, omega arith)

pub returns : goal.returns
returns c =
    let a = c.args in
    let last = ap length (names-last a.rows.now a.k c.loop-l.l (omega arith)) in
    (omega arith, omega arith)
