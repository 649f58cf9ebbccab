-- Each table is cleared. Assumes nothing.
use Rattle.lent.specs.Lent.{witness_tables}
use Rattle.lent.proofs.LentLaws.{tables-cleared}
use Rattle.lent.proofs.clear_witness.Goals as goal

pub returns : goal.returns
returns c =
    let a = c.args in
    tables-cleared (witness_tables a.word.now a.one.now a.other.now) c.clear.ensures c.clear-2.ensures c.clear-3.ensures
