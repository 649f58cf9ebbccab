-- Each answer is that of the phase which gives it: FileLaws. Assumes nothing.
use Rattle.gate.specs.GateLaws.{passed-up}
use Rattle.std.specs.Prelude.{ℕ, ◌+◌, ◌≡◌, List, length, replicate, Result}
use Rattle.gate.specs.declared.Refusal.{Refusal}
use Rattle.frame.specs.declared.Position.{Position}
use Rattle.std.proofs.Common.{sym, ◌∙◌, ap, subst, arith}
use Rattle.automaton.specs.Automaton.{TransitionSets, transition_sets}
use Rattle.frame.specs.Phase.{Phase}
use Rattle.superseding.specs.Superseding.{superseding_in}
use Rattle.superseding.specs.SupersedingLaws.{eight-stored}
use Rattle.state_lines.specs.declared.Sets.{Sets}
use Rattle.state_lines.specs.StateLines.{states_at}
use Rattle.transition_lines.specs.TransitionLines.{transitions_at}
use Rattle.withdrawal_lines.specs.WithdrawalLines.{Superseded, withdrawals_at, WithdrawalsRead}
use Rattle.parser.specs.Parse.{empty_sets, after_withdrawals}
use Rattle.parser.specs.FileLaws.{refused-by-withdrawals, withdrawals-pass, with-cells}
use Rattle.parser.proofs.whole_file.read_numbers.Goals as goal

-- the answer of the withdrawal lines, in rows whose cells were zero
withdrawn-as : (p : List ℕ → Phase Superseded) (cells zeros old rows : List ℕ) {v w : Result Position Refusal} → cells ≡ zeros → v ≡ w
    → WithdrawalsRead (p cells) old rows v → WithdrawalsRead (p zeros) old rows w
withdrawn-as p cells zeros old rows {v} {w} e f h =
    subst (λ (x : List ℕ). WithdrawalsRead (p x) old rows w) e (subst (WithdrawalsRead (p cells) old rows) f h)

pub read_graph-requires : goal.read_graph-requires
read_graph-requires c =
    let a = c.args in
    let left = c.read_withdrawals.new.rows in
    let lines : List ℕ → Phase Superseded = λ cells. withdrawals_at a.s.now a.z.k a.place.line a.place.at 0 cells (length a.s.now + 1) in
    let p =
    withdrawals-pass (lines (replicate 8 0)) a.rows.now left c.in_ok-behind.behind
    (withdrawn-as lines (superseding_in a.rows.now) (replicate 8 0) a.rows.now left c.requires.5 c.in_ok-behind.was c.read_withdrawals.ensures) in
    (c.requires.0, c.requires.1, p.small_line, p.small_at, omega arith, c.requires.6)

pub returns-in_err-behind : goal.returns-in_err-behind
returns-in_err-behind c y here there =
    let a = c.args in
    let t = transition_sets a.table.now a.marks.now in
    let left = c.read_withdrawals.new.rows in
    let lines : List ℕ → Phase Superseded = λ cells. withdrawals_at a.s.now a.z.k a.place.line a.place.at 0 cells (length a.s.now + 1) in
    rw (passed-up c.from_residual.result c.in_err-behind.field-0.0 c.from_residual.ensures.1, there, here)
    (refused-by-withdrawals (lines (replicate 8 0)) (after_withdrawals a.s.now a.z y) t t a.rows.now left c.in_err-behind.field-0.0
    (withdrawn-as lines (superseding_in a.rows.now) (replicate 8 0) a.rows.now left c.requires.5 c.in_err-behind.was c.read_withdrawals.ensures)
    c.requires.6.zeros)

pub returns : goal.returns
returns c y here there =
    let a = c.args in
    let s = a.s.now in
    let z = a.z in
    let left = c.read_withdrawals.new.rows in
    let lines : List ℕ → Phase Superseded = λ cells. withdrawals_at a.s.now a.z.k a.place.line a.place.at 0 cells (length a.s.now + 1) in
    let p =
    withdrawals-pass (lines (replicate 8 0)) a.rows.now left c.in_ok-behind.behind
    (withdrawn-as lines (superseding_in a.rows.now) (replicate 8 0) a.rows.now left c.requires.5 c.in_ok-behind.was c.read_withdrawals.ensures) in
    let w = p.superseded in
    let next : Sets → Phase TransitionSets = λ q. transitions_at z.edition s w.cells z.n z.k q.line q.at 0 empty_sets (length s + 1) in
    let cells : w.cells ≡ superseding_in left = sym (ap superseding_in p.stored ∙ eight-stored a.rows.now w.cells p.eight c.requires.4) in
    rw (there, here, p.is)
    (with-cells z y w a.rows.now left p.eight p.stored (states_at z.edition s w.line w.at 0 0 0 z.n) next (transition_sets a.table.now a.marks.now)
    (transition_sets c.read_graph.new.table c.read_graph.new.marks) c.read_graph.result (c.read_graph.ensures y w p.at p.line cells))
