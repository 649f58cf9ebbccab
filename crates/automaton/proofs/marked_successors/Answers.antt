-- The member-wise meaning of the inner function, and no member where there is no such letter. Assumes nothing.
use Rattle.automaton.specs.SuccessorLaws.{successors-found, successors-none}
use Rattle.automaton.proofs.marked_successors.Goals as goal

pub returns-then-letter-ge8 : goal.returns-then-letter-ge8
returns-then-letter-ge8 c =
    let a = c.args in
    successors-none a.marks.now a.letter a.set c.if-letter-ge8.true

pub returns : goal.returns
returns c =
    let a = c.args in
    successors-found a.marks.now a.letter a.set (λ i. (c.type_inv.marks i).fits) c.if-letter-ge8.false
    c.marked_of.ensures
