-- `sheet_sections::name_lines::put_names` meets its contract: what is left to write gives the whole. Assumes nothing.
use native.Mathlib.Omega.{arith}
use Rattle.format.proofs.FormatLaws.{name-length}
use Rattle.text.specs.PiecesLaws.{put-none, put-room, put-more, put_all, put-end}
use Rattle.sheet_lines.specs.RowName.{row_name}
use Rattle.sheet_sections.specs.RowNamesLaws.{names-pieces}
use Rattle.sheet_sections.proofs.name_lines.put_names.Goals as goal

pub loop-l-init : goal.loop-l-init
loop-l-init c = put-none (rw (names-pieces c.args.rows.now c.args.k 0) at c.requires.2)

pub put_row-at-requires : goal.put_row-at-requires
put_row-at-requires c =
    let a = c.args in
    let h = c.loop-l in
    let room = put-room h.invariant c.loop-l-test.true in
    let one = name-length h.l (row_name a.rows.now h.l) in
    (omega arith, omega arith, omega arith)

pub loop-l-preserved : goal.loop-l-preserved
loop-l-preserved c =
    let l = c.loop-l in
    let a = c.args in
    let put = c.put_row-at in
    put-more l.invariant (omega arith) put.ensures.1 (omega (arith, put.ensures.0, name-length l.l (row_name a.rows.now l.l)))

pub returns : goal.returns
returns c =
    let l = c.loop-l in
    let a = c.args in
    rw (names-pieces a.rows.now a.k 0) (put-end l.invariant (omega arith), put_all l.invariant (omega arith))
