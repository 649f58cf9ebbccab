-- The line, and with a 10 the witness behind it. Assumes nothing.
use native.Mathlib.Omega.{arith}
use Rattle.lent.specs.Lent.{witness_tables}
use Rattle.witness_text.specs.PutLaws.{witness-most}
use Rattle.rewrite_output.specs.PutLaws.{written-other, written-ten}
use Rattle.rewrite_output.proofs.put_refusal_text.Goals as goal

pub put-requires : goal.put-requires
put-requires c =
    let a = c.args in
    let w = witness_tables a.word.now a.one.now a.other.now in
    (c.requires.long, c.requires.letters, omega (arith, witness-most w a.r.length c.requires.letters))

pub returns-then-r-eq10 : goal.returns-then-r-eq10
returns-then-r-eq10 c =
    let a = c.args in
    written-ten a.r (witness_tables a.word.now a.one.now a.other.now) c.refusal_line-line.ensures c.put_bytes.ensures c.if-r-eq10.true c.put.ensures

pub returns : goal.returns
returns c =
    let a = c.args in
    written-other a.r (witness_tables a.word.now a.one.now a.other.now) c.refusal_line-line.ensures c.put_bytes.ensures (omega arith)
