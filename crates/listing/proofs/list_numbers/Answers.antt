-- Each answer is that of building, or of the last question. Assumes nothing.
use Rattle.automaton.specs.Automaton.{Automaton, automaton}
use Rattle.lent.specs.Lent.{witness_tables}
use Rattle.filling.specs.TrackerTables.{tracker_tables}
use Rattle.tracker.specs.Build.{BuildNumbersTables, build_numbers_tables}
use Rattle.listing.specs.ListLaws.{list-numbers-refused, numbers-finished}
use Rattle.listing.proofs.list_numbers.Goals as goal
use Rattle.listing.proofs.list_numbers.Goals.{After-build_numbers}

abbrev given : After-build_numbers → Automaton
given c = let a = c.args in automaton a.a a.table.now a.marks.now

-- the tables that building was lent, and as it left them
abbrev lent : After-build_numbers → BuildNumbersTables
lent c =
    let a = c.args in
    build_numbers_tables (witness_tables a.word.now a.one.now a.other.now) (tracker_tables a.tuples.now a.nexts.now)

abbrev built : After-build_numbers → BuildNumbersTables
built c =
    let w = c.build_numbers.new in
    build_numbers_tables (witness_tables w.word w.one w.other) (tracker_tables w.tuples w.nexts)

pub returns-in-Err : goal.returns-in-Err
returns-in-Err c =
    let at = (goal.at.returns-in-Err c).After-build_numbers in
    list-numbers-refused {A = given at} {before = lent at} {built = built at} c.build_numbers.ensures c.in-Err.is c.refuse.ensures

pub returns-in-Ok : goal.returns-in-Ok
returns-in-Ok c =
    let at = (goal.at.returns-in-Ok c).After-build_numbers in
    numbers-finished {A = given at} {before = lent at} {built = built at} c.build_numbers.ensures c.in-Ok.is c.finish.result c.finish.ensures
