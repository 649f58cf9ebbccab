-- `sheet_text::text_length` meets its contract: the lengths of the parts add up. Assumes nothing.
use Prim.Native.Nat.{◌*◌, ◌≤◌}
use mathlib.Core.Path.{◌≡◌, ap}
use native.Mathlib.Omega.{arith}
use native.Mathlib.Nat.{mul-le-mul_right}
use lib.ListN.{length}
use Rattle.automaton.specs.Automaton.{automaton}
use Rattle.superseding.specs.Superseding.{superseding_in}
use Rattle.format.specs.Format.{state_width, transition_width}
use Rattle.format.specs.Written.{most_transitions, transitions_of}
use Rattle.sheet_sections.specs.RowNames.{row_names}
use Rattle.sheet_sections.specs.RowWithdrawals.{withdrawals_of}
use Rattle.sheet_text.specs.TextLaws.{states-text, transitions-text, text-length}
use Rattle.sheet_text.proofs.text_length.Goals as goal
use Rattle.sheet_text.proofs.text_length.Goals.{After-count_transitions, After-state_width}

-- the lines of states are short, and so are those of transitions
few-states : (c : After-state_width) → c.state_width.result * c.args.a.n ≤ 176
few-states c =
    let small : c.args.a.n ≤ 16 = c.requires.0 in
    omega (arith, mul-le-mul_right c.args.a.n c.state_width.ensures.1)

few-transitions : (c : After-count_transitions) → c.transition_width.result * c.count_transitions.result ≤ 28672
few-transitions c = omega (arith, c.count_transitions.ensures.1, mul-le-mul_right c.count_transitions.result c.transition_width.ensures.1)

pub overflow_mul-result : goal.overflow_mul-result
overflow_mul-result c = omega (arith, few-states (goal.at.overflow_mul-result c).After-state_width)

pub overflow_add-result-3 : goal.overflow_add-result-3
overflow_add-result-3 c = omega (arith, few-states (goal.at.overflow_add-result-3 c).After-state_width)

pub overflow_mul-result-2 : goal.overflow_mul-result-2
overflow_mul-result-2 c = omega (arith, few-transitions (goal.at.overflow_mul-result-2 c).After-count_transitions)

pub overflow_add-result-4 : goal.overflow_add-result-4
overflow_add-result-4 c =
    omega (arith, few-states (goal.at.overflow_add-result-4 c).After-state_width, few-transitions (goal.at.overflow_add-result-4 c).After-count_transitions)

pub returns : goal.returns
returns c marks =
    let width = c.state_width in
    let each = c.transition_width in
    let count = c.count_transitions in
    let a = c.args in
    let A = automaton a.a a.table.now marks in
    let names = row_names a.rows.now 0 a.a.k in
    let withdrawals = withdrawals_of (superseding_in a.rows.now) 0 a.a.k in
    let states : width.result * a.a.n ≡ state_width a.a.edition * a.a.n = ap (◌* a.a.n) width.ensures.0 in
    let transitions : each.result * count.result ≡ transition_width a.a.edition * length (transitions_of a.table.now marks 0 most_transitions) = rw (each.ensures.0, count.ensures.0 marks) in
    omega (arith, text-length A names withdrawals, states-text A, transitions-text A)
