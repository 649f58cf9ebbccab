-- `sheet_sections::state_lines::put_states` meets its contract: what is left to write gives the whole. Assumes nothing.
use native.Mathlib.Omega.{arith}
use Rattle.text.specs.PiecesLaws.{put-none, put-room, put-more, put_all, put-end}
use Rattle.format.proofs.FormatLaws.{state-length}
use Rattle.format.specs.Written.{state_of}
use Rattle.sheet_sections.specs.StatesLaws.{states-pieces}
use Rattle.sheet_sections.proofs.state_lines.put_states.Goals as goal

pub loop-q-init : goal.loop-q-init
loop-q-init c =
    put-none (rw (states-pieces c.args.edition c.args.initial c.args.recurring c.args.n 0) at c.requires.1)

pub put_state-requires : goal.put_state-requires
put_state-requires c =
    let h = c.loop-q in
    let room = put-room h.invariant c.loop-q-test.true in
    (omega arith, omega (arith, state-length c.args.edition h.q (state_of c.args.initial c.args.recurring h.q)))

pub loop-q-preserved : goal.loop-q-preserved
loop-q-preserved c =
    let l = c.loop-q in
    let a = c.args in
    let one = state-length a.edition l.q (state_of a.initial a.recurring l.q) in
    put-more l.invariant (omega arith) c.put_state.ensures (omega arith)

pub returns : goal.returns
returns c =
    let l = c.loop-q in
    let a = c.args in
    rw (states-pieces a.edition a.initial a.recurring a.n 0) (put-end l.invariant (omega arith), put_all l.invariant (omega arith))
