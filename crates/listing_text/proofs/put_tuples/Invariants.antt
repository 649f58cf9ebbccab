-- What is left to write gives the whole. Assumes nothing.
use Rattle.listing_lines.specs.ListingLine.{tuple_line}
use Rattle.text.specs.PiecesLaws.{Putting}
use Rattle.listing_text.proofs.put_tuples.Given as goal

abbrev pub invariant-loop-t : goal.invariant-loop-t
invariant-loop-t l = Putting (tuple_line l.n l.k l.tuples l.nexts) l.initial.out l.at l.count l.out l.p l.t
