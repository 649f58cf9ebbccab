-- `name_rows::compose_into` meets its contract: the composed bytes, and then the zeros that a row is padded with. Assumes nothing.
use Rattle.std.proofs.Common.{◌≡◌, ◌+◌, ◌-◌, ◌∙◌, sym, arith, rules, replicate}
use Rattle.std.proofs.lemmas.List.{length-replicate}
use Rattle.lists.specs.CellsLaws.{part_length}
use Rattle.lists.specs.StoreLaws.{part-over}
use Rattle.text.specs.Bytes.{stretch}
use Rattle.names.specs.Name.{compose}
use Rattle.text.specs.BytesLaws.{stretch-length}
use Rattle.names.specs.NameLaws.{compose-shorter}
use Rattle.name_rows.specs.RowLaws.{stored-zeros}
use Rattle.name_rows.proofs.compose_into.Goals as goal

pub put_composed-n-requires : goal.put_composed-n-requires
put_composed-n-requires c =
    let a = c.args in
    let x = stretch a.s.now a.start a.end in
    (c.requires.0, omega (arith, compose-shorter x, stretch-length a.s.now a.start a.end (omega arith)))

pub returns : goal.returns
returns c =
    let a = c.args in
    let p = c.put_composed-n in
    let n = p.result in
    let rest : a.at + 24 - (a.at + n) ≡ 24 - n = omega arith in
    let zeros = rw (rest, part_length p.new.out (a.at + n) (24 - n) (omega arith)) at (c.fill.ensures.after (search rules)) in
    rw (rest, zeros)
    (part-over p.new.out (replicate (24 - n) 0) (a.at + n) (24 - n) (sym (length-replicate (24 - n) 0)) (omega arith)
    ∙ rw p.ensures.0 (stored-zeros a.rows.now (compose (stretch a.s.now a.start a.end)) a.at n p.ensures.1))
