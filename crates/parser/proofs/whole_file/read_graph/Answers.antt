-- Each answer is that of the phase which gives it: FileLaws. Assumes nothing.
use Rattle.gate.specs.GateLaws.{passed-up}
use Rattle.std.specs.Prelude.{◌+◌, ◌≡◌, length, Err, Ok}
use Rattle.std.proofs.Common.{sym, ◌∙◌}
use Rattle.automaton.specs.Automaton.{TransitionSets, transition_sets}
use Rattle.frame.specs.Phase.{Phase, and_then}
use Rattle.state_lines.specs.StateLines.{states_at}
use Rattle.transition_lines.specs.TransitionLines.{transitions_at, FillsTable}
use Rattle.parser.specs.Parse.{empty_sets, after_states}
use Rattle.parser.specs.FileLaws.{both_zero, refused-by-states, states-pass, refused-by-transitions, transitions-pass}
use Rattle.parser.proofs.whole_file.read_graph.Goals as goal

pub returns-in_err-q : goal.returns-in_err-q
returns-in_err-q c y w here there cells =
    let a = c.args in
    let t = transition_sets a.table.now a.marks.now in
    rw (passed-up c.from_residual.result c.in_err-q.field-0.0 c.from_residual.ensures.1, there, here)
    (refused-by-states (states_at a.z.edition a.s.now a.place.line a.place.at 0 0 0 a.z.n) (after_states a.s.now a.z y w) t t c.in_err-q.field-0.0
    (sym c.in_err-q.was ∙ c.read_states.ensures.0) c.requires.5.zeros)

pub returns-in_err-read_transitions : goal.returns-in_err-read_transitions
returns-in_err-read_transitions c y w here there cells =
    let a = c.args in
    let q = c.in_ok-q.q in
    let r = c.in_err-read_transitions.field-0.0 in
    let t = transition_sets a.table.now a.marks.now in
    let u = transition_sets c.read_transitions.new.table c.read_transitions.new.marks in
    let last : Phase TransitionSets = transitions_at a.z.edition a.s.now w.cells a.z.n a.z.k q.line q.at 0 empty_sets (length a.s.now + 1) in
    let passes : and_then (states_at a.z.edition a.s.now a.place.line a.place.at 0 0 0 a.z.n) (after_states a.s.now a.z y w) ≡ after_states a.s.now a.z y w q =
    states-pass (states_at a.z.edition a.s.now a.place.line a.place.at 0 0 0 a.z.n) (after_states a.s.now a.z y w) q (sym c.in_ok-q.was ∙ c.read_states.ensures.0) in
    let filled : FillsTable last t u (Err r) = rw cells (rw (both_zero t c.requires.5, c.in_err-read_transitions.was) at c.read_transitions.ensures) in
    rw (passed-up c.from_residual-in_err-read_transitions.result c.in_err-read_transitions.field-0.0 c.from_residual-in_err-read_transitions.ensures.1, there, here, passes) (refused-by-transitions a.z y w q last t u r filled)

pub returns : goal.returns
returns c y w here there cells =
    let a = c.args in
    let q = c.in_ok-q.q in
    let t = transition_sets a.table.now a.marks.now in
    let u = transition_sets c.read_transitions.new.table c.read_transitions.new.marks in
    let last : Phase TransitionSets = transitions_at a.z.edition a.s.now w.cells a.z.n a.z.k q.line q.at 0 empty_sets (length a.s.now + 1) in
    let passes : and_then (states_at a.z.edition a.s.now a.place.line a.place.at 0 0 0 a.z.n) (after_states a.s.now a.z y w) ≡ after_states a.s.now a.z y w q =
    states-pass (states_at a.z.edition a.s.now a.place.line a.place.at 0 0 0 a.z.n) (after_states a.s.now a.z y w) q (sym c.in_ok-q.was ∙ c.read_states.ensures.0) in
    let filled : FillsTable last t u (Ok tt) = rw cells (rw (both_zero t c.requires.5, c.in_ok-read_transitions.was) at c.read_transitions.ensures) in
    rw (there, here, passes) (transitions-pass a.z y w q last t u filled c.requires.5)
