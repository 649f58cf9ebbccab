-- `state_lines::read_states` meets its contract: what a line holds decides what is left of the definition. Assumes nothing.
use Rattle.std.specs.Prelude.{◌*◌, ◌^◌, ◌≤◌, ◌≡◌}
use Rattle.std.proofs.Common.{sym, ◌∙◌, ap, arith}
use Rattle.state_lines.specs.StateLines.{states_answer}
use Rattle.state_lines.specs.StateStepLaws.{states-turn, states-done, flag-part, double}
use Rattle.state_lines.proofs.read_states.Goals as goal

pub returns-in_default : goal.returns-in_default
returns-in_default c =
    let l = c.loop-q in
    let a = c.args in
    let line = sym c.state_line.ensures.0 ∙ c.in_default.is in
    (ap states_answer (sym (states-turn a.edition a.s.now l.line l.at l.q l.initial' l.recurring a.n (omega arith) line) ∙ l.invariant.5), tt)

pub loop-q-preserved : goal.loop-q-preserved
loop-q-preserved c =
    let l = c.loop-q in
    let a = c.args in
    let i = c.in-Some.i in
    let r = c.in-Some.r in
    let b : l.bit ≡ 2 ^ l.q = l.invariant.2 in
    let small = c.in-Some.ensures.1 in
    let parts : (i * l.bit ≤ l.bit) × (r * l.bit ≤ l.bit) = (flag-part i l.bit small.0, flag-part r l.bit small.1) in
    let line = sym c.state_line.ensures.0 ∙ c.in-Some.is in (
      omega arith,
      omega arith,
      rw b (double l.q),
      omega (arith, parts),
      omega (arith, parts),
      rw (b, c.state_width-size.ensures.0)
          (sym (states-turn a.edition a.s.now l.line l.at l.q l.initial' l.recurring a.n (omega arith) line) ∙ l.invariant.5),
    )

pub returns : goal.returns
returns c =
    let l = c.loop-q in
    let a = c.args in
    let e = sym (states-done a.edition a.s.now l.line l.at l.q l.initial' l.recurring a.n (omega arith)) ∙ l.invariant.5 in
    (ap states_answer e, (omega arith, omega arith))
