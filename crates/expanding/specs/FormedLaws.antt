-- The tuples that are reached are as a step enters them, so their rows are whole. Assumes nothing.
use Rattle.automaton.specs.Automaton.{Automaton, Fits}
use Rattle.tuple.specs.Step.{Tuple, Formed}
use Rattle.tuple.specs.TupleLaws.{first-formed, next-formed}
use Rattle.numbering.specs.Numbering.{Reachable}
use Rattle.numbering.proofs.NumberingLaws.{reachable-all}

pub reachable-formed : {A : Automaton} → Fits A → (u : Tuple) → Reachable A u → Formed A u
reachable-formed {A} fits = reachable-all A (Formed A) (first-formed fits) (λ u l f k. next-formed fits l k u)
