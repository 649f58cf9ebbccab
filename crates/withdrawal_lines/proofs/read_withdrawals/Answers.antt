-- The loop's invariant: what is left of the definition, from the place and the cells reached, is the whole of it. Assumes nothing.
use Rattle.std.specs.Prelude.{Option}
use Prim.Native.Nat.{ℕ, ◌+◌, ◌-◌, ◌≤◌, ◌<◌}
use mathlib.Core.Path.{◌≡◌, refl, sym, ◌∙◌}
use mathlib.Core.List.{List}
use native.Mathlib.Omega.{arith}
use lib.ListN.{length, get_or, set}
use Rattle.superseding.specs.Superseding.{superseding_in}
use Rattle.superseding.specs.SupersedingLaws.{eight_cells, cell-stored, eight-kept, withdraw-more}
use Rattle.frame.specs.Phase.{refused}
use Rattle.text.specs.WordLaws.{within}
use Rattle.withdrawal_lines.specs.WithdrawalLines.{with_withdrawal, withdrawals_at}
use Rattle.withdrawal_lines.specs.WithdrawalLaws.{withdrawals-end}
use Rattle.withdrawal_lines.specs.WithdrawalStepLaws.{withdrawals-turn}
use Rattle.withdrawal_lines.proofs.read_withdrawals.Goals as goal
use Rattle.withdrawal_lines.proofs.read_withdrawals.Goals.{After-withdrawal_line, In-Some, In-loop-least}

-- in a turn a W stands at the place, which so lies within the file
inside : (s : List ℕ) (at : ℕ) {b : ℕ} → b ≡ get_or s at 0 → b ≡ 87 → at < length s
inside s at e w = within s at (omega arith)

-- what a line holds decides what is left of the definition
turn : (c : After-withdrawal_line) →
    let l = c.loop-least in
    let a = c.args in
    (v : Option (ℕ × ℕ)) → c.withdrawal_line.result ≡ v →
    with_withdrawal v
    (λ w. withdrawals_at a.s.now a.k (l.line + 1) (l.at + 8) (w.letter + 1) (set (superseding_in l.rows) w.letter w.by) (length a.s.now + 1 + a.first - (l.line + 1)))
    (refused 15 l.line) ≡
    withdrawals_at a.s.now a.k a.first a.start 0 (superseding_in a.rows.now) (length a.s.now + 1)
turn c v e =
    let l = c.loop-least in
    let a = c.args in
    sym
    (withdrawals-turn a.s.now a.k l.line l.at l.least (superseding_in l.rows) _ (length a.s.now + 1 + a.first - l.line) (omega (arith, inside c.args.s.now c.loop-least.at c.opening.ensures c.loop-least-test.true))
    (sym c.opening.ensures ∙ c.loop-least-test.true) (sym c.withdrawal_line.ensures.0 ∙ e)) ∙
    l.invariant.0

-- the letter is not below the least one, and the superseding letter is one of eight
small : (c : In-Some) →
    (c.loop-least.least ≤ c.in-Some.letter) × (c.in-Some.letter < c.in-Some.by) × (c.in-Some.by < 8)
small c = rw c.in-Some.is at c.withdrawal_line.ensures.1

pub loop-least-init : goal.loop-least-init
loop-least-init c =
    let a = c.args in
    let z : length a.s.now + 1 + a.first - a.first ≡ length a.s.now + 1 = omega arith in
    (rw z, sym (eight-kept a.rows.now (omega arith)), refl, omega arith, omega arith, omega arith, omega arith)

pub shape_of-rows-in_default : goal.shape_of-rows-in_default
shape_of-rows-in_default c = c.loop-least.invariant.2

pub returns-in_default : goal.returns-in_default
returns-in_default c =
    rw (← turn (goal.at.returns-in_default c).After-withdrawal_line _ c.in_default.is) (refl, c.loop-least.invariant.1)

pub withdraw-requires : goal.withdraw-requires
withdraw-requires c = omega (arith, small (goal.at.withdraw-requires c).In-Some)

pub overflow_add-least : goal.overflow_add-least
overflow_add-least c = omega (arith, small (goal.at.overflow_add-least c).In-Some)

pub loop-least-smaller : goal.loop-least-smaller
loop-least-smaller c = omega (arith, inside c.args.s.now c.loop-least.at c.opening.ensures c.loop-least-test.true)

pub loop-least-preserved : goal.loop-least-preserved
loop-least-preserved c =
    let l = c.loop-least in
    let a = c.args in
    let z = c.in-Some in
    let stored = c.withdraw.ensures in
    let (low, larger, most) = small (goal.at.loop-least-preserved c).In-Some in
    let h : z.letter < 8 = omega arith in (
      rw (stored, cell-stored l.rows z.letter z.by h) (turn (goal.at.loop-least-preserved c).After-withdrawal_line _ c.in-Some.is),
      rw stored (withdraw-more a.rows.now l.rows z.letter z.by h (omega arith) l.invariant.1),
      c.withdraw.auto.rows ∙ l.invariant.2,
      omega arith,
      omega arith,
      omega arith,
      omega arith,
    )

pub shape_of-rows : goal.shape_of-rows
shape_of-rows c = c.loop-least.invariant.2

pub returns : goal.returns
returns c =
    let l = c.loop-least in
    let a = c.args in
    let s = a.s.now in
    let e =
    sym
    (withdrawals-end s a.k (length s + 1 + a.first - l.line) l.line l.at l.least (superseding_in l.rows)
    (λ e. c.loop-least-test.false (c.opening.ensures ∙ e))) ∙
    l.invariant.0 in
    rw (← e) (refl, omega arith, omega arith, eight_cells l.rows (omega arith), l.invariant.1)
