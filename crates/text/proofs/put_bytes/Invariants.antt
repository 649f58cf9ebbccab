-- `text::put_bytes` meets its contract. With what is left of it the whole word is stored: `Storing`. Assumes nothing.
use Rattle.lists.specs.StoreLaws.{Storing}
use Rattle.text.proofs.put_bytes.Given as goal

abbrev pub invariant-loop-i : goal.invariant-loop-i
invariant-loop-i l = Storing l.initial.out l.word l.at l.out l.i
