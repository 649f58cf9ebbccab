-- Each answer is what the tests passed make of the definition. Assumes nothing.
use mathlib.Core.Path.{◌≡◌, sym, ◌∙◌}
use native.Mathlib.Omega.{arith}
use borrow.Author.Tests.{lt-ltb, le-ltb, lt-leb, le-leb}
use Rattle.withdrawal_lines.specs.WithdrawalLines.{withdrawal_of, withdrawal_line_at}
use Rattle.withdrawal_lines.proofs.withdrawal_line.Goals as goal
use Rattle.withdrawal_lines.proofs.withdrawal_line.Goals.{In_ok-letter}

-- what is left of the definition behind the line's two numbers
behind : (c : In_ok-letter) →
    let a = c.args in
    withdrawal_line_at a.s.now a.at a.k a.least ≡ withdrawal_of a.k a.least c.in_ok-letter.letter c.in_ok-letter.by
unfolding withdrawal_line_at
behind c = simp (sym c.pair_at.ensures, c.in_ok-letter.was)

pub returns-in_err-letter : goal.returns-in_err-letter
unfolding withdrawal_line_at
returns-in_err-letter c = (c.from_residual.ensures ∙ simp (sym c.pair_at.ensures, c.in_err-letter.was), rw c.from_residual.ensures tt)

pub returns-then-letter-least : goal.returns-then-letter-least
unfolding withdrawal_of
returns-then-letter-least c =
    (sym (behind (goal.at.returns-then-letter-least c).In_ok-letter ∙ simp (lt-leb _ _ c.if-letter-least.true)), tt)

pub returns-then-by-letter : goal.returns-then-by-letter
unfolding withdrawal_of
returns-then-by-letter c =
    (sym (behind (goal.at.returns-then-by-letter c).In_ok-letter ∙ simp (le-leb _ _ c.if-letter-least.false, le-ltb _ _ c.if-by-letter.true)), tt)

pub returns-then-k-by : goal.returns-then-k-by
unfolding withdrawal_of
returns-then-k-by c =
    (sym (behind (goal.at.returns-then-k-by c).In_ok-letter ∙ simp (le-leb _ _ c.if-letter-least.false, lt-ltb _ _ c.if-by-letter.false, le-ltb _ _ c.if-k-by.true)), tt)

pub returns : goal.returns
unfolding withdrawal_of
returns c =
    (sym (behind (goal.at.returns c).In_ok-letter ∙ simp (le-leb _ _ c.if-letter-least.false, lt-ltb _ _ c.if-by-letter.false, lt-ltb _ _ c.if-k-by.false)), omega arith)
