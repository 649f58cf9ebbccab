-- The call's answer in the lent table. Assumes nothing.
use mathlib.Core.Path.{subst}
use Rattle.automaton.specs.Automaton.{Automaton}
use Rattle.lent.specs.Lent.{witness_tables}
use Rattle.filling.specs.TrackerTables.{tracker_tables}
use Rattle.tracker.specs.Build.{build_numbers_tables}
use Rattle.listing.specs.List.{list_numbers_tables, ListsNumbers}
use Rattle.tracker_exports.proofs.trackers.lunthomi_list_numbers.Goals as goal

pub returns : goal.returns
returns c =
    let a = c.args in
    let r = c.list_numbers-r in
    record {
      answer = r.result;
      call = subst (λ (A : Automaton). ListsNumbers A a.room (list_numbers_tables (build_numbers_tables (witness_tables a.word.now a.one.now a.other.now) (tracker_tables a.tuples.now a.nexts.now)) a.out.now)
          (list_numbers_tables (build_numbers_tables (witness_tables r.new.word r.new.one r.new.other) (tracker_tables r.new.tuples r.new.nexts)) r.new.out) r.result)
          (c.numbers_of-a.ensures a.table.now a.marks.now) r.ensures;
      table = c.put_written.ensures;
    }
