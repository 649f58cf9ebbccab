-- The loop's invariant: what is left of the definition, from the place reached, is the whole of it. Assumes nothing.
use Prim.Native.Nat.{◌+◌, ◌-◌, ◌*◌, ◌^◌, ◌≤◌, ◌<◌}
use mathlib.Core.Path.{◌≡◌}
use Rattle.state_lines.specs.StateLines.{states_at}
use Rattle.state_lines.proofs.read_states.Given as goal

abbrev pub invariant-loop-q : goal.invariant-loop-q
invariant-loop-q l =
    (l.at ≤ l.start + 11 * l.q) × (l.line ≡ l.first + l.q) × (l.bit ≡ 2 ^ l.q) × (l.initial' < l.bit) × (l.recurring < l.bit) ×
    (states_at l.edition l.s l.line l.at l.q l.initial' l.recurring (l.n - l.q) ≡ states_at l.edition l.s l.first l.start 0 0 0 l.n)
