-- `sheet_sections::withdrawal_lines::put_withdrawals` meets its contract: what is left to write gives the whole. Assumes nothing.
use native.Mathlib.Omega.{arith}
use Rattle.text.specs.PiecesLaws.{put-none, put-room, put-more, put_all, put-end}
use Rattle.superseding.specs.Superseding.{superseding_in}
use Rattle.sheet_sections.specs.RowWithdrawalsLaws.{withdrawals-pieces}
use Rattle.sheet_sections.proofs.withdrawal_lines.put_withdrawals.Goals as goal

pub loop-l-init : goal.loop-l-init
loop-l-init c =
    put-none (rw (withdrawals-pieces (superseding_in c.args.rows.now) c.args.k 0) at c.requires.2)

pub put_letter-at-requires : goal.put_letter-at-requires
put_letter-at-requires c =
    let h = c.loop-l in
    (omega arith, omega arith, put-room h.invariant c.loop-l-test.true)

pub loop-l-preserved : goal.loop-l-preserved
loop-l-preserved c =
    let l = c.loop-l in
    let put = c.put_letter-at in
    put-more l.invariant (omega arith) put.ensures.1 put.ensures.0

pub returns : goal.returns
returns c =
    let l = c.loop-l in
    let a = c.args in
    rw (withdrawals-pieces (superseding_in a.rows.now) a.k 0) (put-end l.invariant (omega arith), put_all l.invariant (omega arith))
