-- Each table is cleared. Assumes nothing.
use Rattle.filling.specs.TrackerTables.{tracker_tables}
use Rattle.filling.specs.TrackerTablesLaws.{tracker-cleared}
use Rattle.filling.proofs.clear.Goals as goal

pub returns : goal.returns
returns c =
    let a = c.args in
    tracker-cleared (tracker_tables a.tuples.now a.nexts.now) c.clear.ensures c.clear-2.ensures
