-- The questions in their order; each answer is what its call ensures. Assumes nothing.
use Rattle.std.specs.Prelude.{ℕ, None, Option, Some}
use mathlib.Core.Path.{refl, subst}
use Rattle.automaton.specs.Automaton.{automaton, graph_of}
use Rattle.automaton.specs.Graph.{Graph, graph}
use Rattle.automaton.specs.QuestionLaws.{same_graph}
use Rattle.lent.specs.Lent.{witness_tables, NumbersRefuse}
use Rattle.walks.specs.Check.{AnsweredTen}
use Rattle.walks.specs.CheckLaws.{free-answered, meets-answered}
use Rattle.walks.proofs.check_cleared.Goals as goal
use Rattle.walks.proofs.check_cleared.Goals.{After-ask}

-- the answer r to question 10, on the graph g
abbrev Answer : After-ask → Graph → Option ℕ → Type 0
Answer c g r =
    let a = c.args in
    let l = c.ask.new in
    AnsweredTen g (witness_tables a.word.now a.one.now a.other.now) (witness_tables l.word l.one l.other) r

-- the graph that is asked is the automaton's
answer : (c : After-ask) (r : Option ℕ) → Answer c (graph c.graph_of.result c.args.table.now) r
    → Answer c (graph_of (automaton c.args.a c.args.table.now c.args.marks.now)) r
answer c r h = subst (λ (g : Graph). Answer c g r) (same_graph c.args.a c.args.table.now c.args.marks.now c.graph_of.ensures) h

pub returns-in-Some : goal.returns-in-Some
returns-in-Some c = NumbersRefuse.unfit c.in-Some.number c.in-Some.ensures refl c.requires.1

pub returns-in-Some-ask : goal.returns-in-Some-ask
returns-in-Some-ask c =
    NumbersRefuse.meeting c.in_default.ensures (meets-answered (answer (goal.at.returns-in-Some-ask c).After-ask (Some c.in-Some-ask.length) c.in-Some-ask.ensures))

pub returns : goal.returns
returns c =
    free-answered c.in_default.ensures (answer (goal.at.returns c).After-ask None c.in_default-ask.ensures) c.requires.1
