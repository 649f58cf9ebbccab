-- The loop's invariant: what is left of the definition, from the place reached and the two tables as they are there, is the whole of it. Assumes nothing.
use Prim.Native.Nat.{ℕ, ◌+◌, ◌-◌, ◌≤◌}
use mathlib.Core.Path.{◌≡◌}
use mathlib.Core.List.{List}
use lib.ListN.{length, take, drop}
use Rattle.automaton.specs.Automaton.{TransitionSets, transition_sets}
use Rattle.superseding.specs.Superseding.{superseding_in}
use Rattle.transition_lines.specs.TransitionLines.{transitions_at}
use Rattle.transition_lines.proofs.read_transitions.Given as goal

-- the first 128 cells of the two tables
abbrev pub front : List ℕ → List ℕ → TransitionSets
front table marks = transition_sets (take 128 table) (take 128 marks)

abbrev pub invariant-loop-edition : goal.invariant-loop-edition
invariant-loop-edition l =
    (l.line ≤ l.at + l.first) × (l.at ≤ length l.s + 514) × (l.line ≤ length l.s + l.first) × (length l.table ≡ length l.initial.table) × (length l.marks ≡ length l.initial.marks) ×
    (drop 128 l.table ≡ drop 128 l.initial.table) × (drop 128 l.marks ≡ drop 128 l.initial.marks) ×
    (transitions_at l.edition l.s (superseding_in l.rows) l.n l.k l.line l.at l.least (front l.table l.marks) (length l.s + 1 + l.first - l.line) ≡
    transitions_at l.edition l.s (superseding_in l.rows) l.n l.k l.first l.start 0 (front l.initial.table l.initial.marks) (length l.s + 1))

abbrev pub decreases-loop-edition : goal.decreases-loop-edition
decreases-loop-edition l = length l.s + 1 + l.first - l.line
