-- The call's answer in the lent table. Assumes nothing.
use mathlib.Core.Path.{subst}
use Rattle.automaton.specs.Automaton.{Automaton}
use Rattle.lent.specs.Lent.{witness_tables}
use Rattle.filling.specs.TrackerTables.{tracker_tables}
use Rattle.tracker.specs.Build.{build_numbers_tables, BuildsNumbers}
use Rattle.tracker_exports.proofs.trackers.lunthomi_build_numbers.Goals as goal

pub returns : goal.returns
returns c =
    let a = c.args in
    let r = c.build_numbers-r in
    record {
      answer = r.result;
      call = subst (λ (A : Automaton). BuildsNumbers A a.room (build_numbers_tables (witness_tables a.word.now a.one.now a.other.now) (tracker_tables a.tuples.now a.nexts.now))
          (build_numbers_tables (witness_tables r.new.word r.new.one r.new.other) (tracker_tables r.new.tuples r.new.nexts)) r.result)
          (c.numbers_of-a.ensures a.table.now a.marks.now) r.ensures;
      table = c.put_built.ensures;
    }
