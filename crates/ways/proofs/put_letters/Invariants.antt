-- The letters are written from the last on: `Writing`. Assumes nothing.
use Rattle.ways.specs.SpellLaws.{Writing}
use Rattle.ways.proofs.put_letters.Given as goal

abbrev pub invariant-loop-left : goal.invariant-loop-left
invariant-loop-left l = Writing l.tuples l.count l.t l.d l.initial.letters l.letters l.at l.left
