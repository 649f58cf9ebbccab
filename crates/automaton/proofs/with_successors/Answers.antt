-- A member's successors are added, and another's are not. Assumes nothing.
use Prim.Native.Nat.{ℕ}
use mathlib.Core.Path.{◌≡◌, ◌∙◌, ap}
use borrow.Author.Rules.{rules}
use Rattle.sets.specs.Sets.{union_of}
use Rattle.automaton.specs.Graph.{successor_set}
use Rattle.automaton.specs.SuccessorLaws.{given-member, given-other}
use Rattle.automaton.proofs.with_successors.Goals as goal

pub returns-then-contains : goal.returns-then-contains
returns-then-contains c =
    let a = c.args in
    let y = successor_set a.table.now a.q a.letter in
    let cell : c.unwrap_or.result ≡ y = search rules in
    c.union.ensures
    ∙ ap (λ (x : ℕ). union_of a.found x) cell
    ∙ given-member a.found a.set a.q y (c.contains.ensures.0 c.if-contains.true)

pub returns : goal.returns
returns c =
    let a = c.args in
    given-other a.found a.set a.q (successor_set a.table.now a.q a.letter) (c.contains.ensures.1 c.if-contains.false)
