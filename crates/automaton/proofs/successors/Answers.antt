-- No member where there is no such letter. Assumes nothing.
use borrow.Author.Rules.{rules}
use Rattle.automaton.specs.SuccessorLaws.{successors-none}
use Rattle.automaton.proofs.successors.Goals as goal

pub returns : goal.returns
returns c = search (rules, successors-none)
