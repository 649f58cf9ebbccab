-- The call's answer in the lent table. Assumes nothing.
use mathlib.Core.Path.{subst}
use Rattle.automaton.specs.Automaton.{Automaton}
use Rattle.lent.specs.Lent.{witness_tables}
use Rattle.walks.specs.Check.{Checks}
use Rattle.exports.proofs.sheets.lunthomi_check.Goals as goal

pub returns : goal.returns
returns c =
    let a = c.args in
    let r = c.check-r in
    record {
      answer = r.result;
      call = subst (λ (A : Automaton). Checks A (witness_tables a.word.now a.one.now a.other.now)
          (witness_tables r.new.word r.new.one r.new.other) r.result)
          (c.numbers_of-a.ensures a.table.now a.marks.now) r.ensures;
      table = c.put_checked.ensures;
    }
