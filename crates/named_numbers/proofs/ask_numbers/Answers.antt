-- `named_numbers::ask_numbers` meets its contract: the questions in their order, each answer is what its call ensures. Assumes nothing.
use Rattle.std.specs.Prelude.{ℕ, None, Option, Some}
use mathlib.Core.Path.{refl, subst}
use mathlib.Core.List.{List}
use Rattle.automaton.specs.Automaton.{automaton, graph_of}
use Rattle.automaton.specs.Graph.{Graph, graph}
use Rattle.automaton.specs.QuestionLaws.{same_graph}
use Rattle.lent.specs.Lent.{witness_tables}
use Rattle.walks.specs.Check.{AnsweredTen}
use Rattle.walks.specs.CheckLaws.{free-answered, meets-answered}
use Rattle.superseding.specs.Superseding.{superseding_in}
use Rattle.format.specs.Format.{Withdrawal}
use Rattle.format.specs.Withdrawals.{TellWithdrawn, EdgesInForce}
use Rattle.named_numbers.specs.Ask.{NamedNumbersRefuse}
use Rattle.named_numbers.specs.InForceLaws.{edges-in-force, cells-in-force}
use Rattle.named_numbers.proofs.ask_numbers.Goals as goal
use Rattle.named_numbers.proofs.ask_numbers.Goals.{After-ask, Else-not-in_force}

-- behind 16 the letters are in force
in-force : (c : Else-not-in_force) →
    let a = c.args in
    (ws : List Withdrawal) → TellWithdrawn ws (superseding_in a.rows.now) → EdgesInForce (graph_of (automaton a.a a.table.now a.marks.now)) ws
in-force c ws tell = edges-in-force c.in_default.ensures tell (c.in_force.ensures.0 c.if-not-in_force.false)

-- the answer r to question 10, on the graph g
abbrev Answer : After-ask → Graph → Option ℕ → Type 0
Answer c g r =
    let a = c.args in
    let l = c.ask.new in
    AnsweredTen g (witness_tables a.word.now a.one.now a.other.now) (witness_tables l.word l.one l.other) r

-- the graph that is asked is the automaton's
answer : (c : After-ask) (r : Option ℕ) → Answer c (graph c.graph_of.result c.args.table.now) r
    → Answer c (graph_of (automaton c.args.a c.args.table.now c.args.marks.now)) r
answer c r h = subst (λ (g : Graph). Answer c g r) (same_graph c.args.a c.args.table.now c.args.marks.now c.graph_of.ensures) h

pub returns-in-Some : goal.returns-in-Some
returns-in-Some c ws tell = NamedNumbersRefuse.unfit c.in-Some.number c.in-Some.ensures refl c.requires.1

pub returns-then-not-in_force : goal.returns-then-not-in_force
returns-then-not-in_force c ws tell =
    NamedNumbersRefuse.withdrawn c.in_default.ensures
    (λ f. c.in_force.ensures.1 c.if-not-in_force.true (cells-in-force c.in_default.ensures tell f)) refl c.requires.1

pub returns-in-Some-ask : goal.returns-in-Some-ask
returns-in-Some-ask c ws tell =
    let g = goal.at.returns-in-Some-ask c in
    NamedNumbersRefuse.meeting c.in_default.ensures (in-force g.Else-not-in_force ws tell)
    (meets-answered (answer g.After-ask (Some c.in-Some-ask.length) c.in-Some-ask.ensures))

pub returns : goal.returns
returns c ws tell =
    let g = goal.at.returns c in
    let (f, free, zero) = free-answered c.in_default.ensures (answer g.After-ask None c.in_default-ask.ensures) c.requires.1 in
    (f, in-force g.Else-not-in_force ws tell, free, zero)
