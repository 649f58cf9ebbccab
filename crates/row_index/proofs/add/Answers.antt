-- The row stands behind the others and is the last of its digest. Assumes nothing.
use Rattle.row_index.specs.IndexLaws.{added}
use Rattle.row_index.proofs.add.Goals as goal

pub returns : goal.returns
returns c =
    let p = c.requires in
    added p.0 p.1 p.2 c.store.ensures
