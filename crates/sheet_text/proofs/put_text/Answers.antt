-- `sheet_text::put_text` meets its contract: the parts are stored one behind the other. Assumes nothing.
use Prim.Native.Nat.{ℕ, ◌+◌, ◌≤◌}
use mathlib.Core.List.{List}
use native.Mathlib.Omega.{arith}
use lib.ListN.{length}
use Rattle.automaton.specs.Automaton.{Automaton, automaton}
use Rattle.superseding.specs.Superseding.{superseding_in}
use Rattle.format.specs.Format.{Withdrawal, name_lines, withdrawal_lines}
use Rattle.sheet_sections.specs.RowNames.{row_names}
use Rattle.sheet_sections.specs.RowWithdrawals.{withdrawals_of}
use Rattle.sheet_text.specs.TextLaws.{states_text, transitions_text, text-length, text-stored}
use Rattle.sheet_text.proofs.put_text.Goals as goal
use Rattle.sheet_text.proofs.put_text.Goals.{Start}

-- what is written
abbrev numbers : Start → Automaton
numbers s = automaton s.args.a s.args.table.now s.args.marks.now

abbrev names : Start → List (List ℕ)
names s = row_names s.args.rows.now 0 s.args.a.k

abbrev withdrawals : Start → List Withdrawal
withdrawals s = withdrawals_of (superseding_in s.args.rows.now) 0 s.args.a.k

fits : (s : Start) →
    12 + (length (name_lines 0 (names s)) + (length (withdrawal_lines (withdrawals s)) + (length (states_text (numbers s)) + (length (transitions_text (numbers s)) + 4))))
    ≤ length s.args.out.now
fits s = omega (arith, s.requires.2, text-length (numbers s) (names s) (withdrawals s))

pub put_head-requires : goal.put_head-requires
put_head-requires c = omega (arith, fits (goal.at.put_head-requires c).Start)

pub put_names-withdrawals-requires : goal.put_names-withdrawals-requires
put_names-withdrawals-requires c = omega (arith, fits (goal.at.put_names-withdrawals-requires c).Start)

pub put_withdrawals-states-requires : goal.put_withdrawals-states-requires
put_withdrawals-states-requires c = omega (arith, fits (goal.at.put_withdrawals-states-requires c).Start)

pub put_states-transitions-requires : goal.put_states-transitions-requires
put_states-transitions-requires c =
    (c.requires.0.states, omega (arith, fits (goal.at.put_states-transitions-requires c).Start))

pub put_transitions-end-requires : goal.put_transitions-end-requires
put_transitions-end-requires c =
    (c.requires.0.table, c.requires.0.marks, omega (arith, fits (goal.at.put_transitions-end-requires c).Start))

pub put_bytes-requires : goal.put_bytes-requires
put_bytes-requires c = omega (arith, fits (goal.at.put_bytes-requires c).Start)

pub returns : goal.returns
returns c =
    let s = (goal.at.returns c).Start in
    text-stored (numbers s) (names s) (withdrawals s) c.args.out.now
    c.put_head.ensures
    c.put_names-withdrawals.ensures.1
    c.put_names-withdrawals.ensures.0
    c.put_withdrawals-states.ensures.1
    c.put_withdrawals-states.ensures.0
    c.put_states-transitions.ensures.1
    c.put_states-transitions.ensures.0
    c.put_transitions-end.ensures.1
    c.put_transitions-end.ensures.0
    c.put_bytes.ensures
