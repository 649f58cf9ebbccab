-- The cells passed are the list's, with fillers behind it: `Copying`, from one loop into the next. Assumes nothing.
use Rattle.std.proofs.Common.{◌≡◌, refl, sym, arith}
use Rattle.std.proofs.lemmas.List.{get_or_read_under, get_or_past}
use Rattle.cells.specs.CopyLaws.{copy-none, copy_more, copy-end}
use Rattle.cells.proofs.copy_filled.Goals as goal

pub loop-i-init : goal.loop-i-init
loop-i-init g c = copy-none _ _ _

pub loop-i-preserved : goal.loop-i-preserved
loop-i-preserved g c =
    let l = c.args.list.now in
    copy_more _ c.loop-i.invariant (get_or_read_under l c.loop-i.i _ c.index-list-i.result c.args.filler c.index-list-i.is (omega arith) refl) (omega arith)

pub loop-i-2-init : goal.loop-i-2-init
loop-i-2-init g c = let reached : c.min-n.result ≡ c.loop-i.i = omega arith in rw reached c.loop-i.invariant

pub loop-i-2-preserved : goal.loop-i-2-preserved
loop-i-2-preserved g c = copy_more _ c.loop-i-2.invariant (sym (get_or_past c.args.list.now c.loop-i-2.i c.args.filler (omega arith))) (omega arith)

pub returns : goal.returns
returns g c = copy-end _ c.loop-i-2.invariant (omega arith)
