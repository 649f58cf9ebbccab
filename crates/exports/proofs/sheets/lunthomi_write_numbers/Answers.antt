-- The call's answer in the lent table. Assumes nothing.
use mathlib.Core.Path.{subst}
use Rattle.automaton.specs.Automaton.{Automaton}
use Rattle.lent.specs.Lent.{witness_tables}
use Rattle.writer.specs.Write.{write_tables, WritesNumbers}
use Rattle.exports.proofs.sheets.lunthomi_write_numbers.Goals as goal

pub returns : goal.returns
returns c =
    let a = c.args in
    let r = c.write_numbers-r in
    record {
      answer = r.result;
      call = subst (λ (A : Automaton). WritesNumbers A a.names.now (write_tables (witness_tables a.word.now a.one.now a.other.now) a.out.now)
          (write_tables (witness_tables r.new.word r.new.one r.new.other) r.new.out) r.result)
          (c.numbers_of-a.ensures a.table.now a.marks.now) r.ensures;
      table = c.put_written.ensures;
    }
