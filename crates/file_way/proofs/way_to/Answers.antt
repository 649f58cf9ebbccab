-- Question 1 is passed, so the answer is that of what is left to do behind building. Assumes nothing.
use Rattle.automaton.specs.Automaton.{transition_sets}
use Rattle.lent.specs.Lent.{witness_tables}
use Rattle.filling.specs.TrackerTables.{tracker_tables}
use Rattle.tracker.specs.Build.{build_tables}
use Rattle.file_way.specs.FileWayLaws.{finished}
use Rattle.file_way.proofs.way_to.Goals as goal

pub returns : goal.returns
returns c =
    let w = c.build-built.new in
    finished {built = build_tables (transition_sets w.table w.marks) (witness_tables w.word w.one w.other) (tracker_tables w.tuples w.nexts)}
    (c.enough.ensures.0 c.if-not-enough.false) c.build-built.ensures c.finish.ensures
