-- Each answer is what the tests passed make of the definition. Assumes nothing.
use Rattle.std.specs.Prelude.{None}
use Prim.Native.Nat.{◌+◌}
use mathlib.Core.Path.{◌≡◌, sym, ◌∙◌}
use native.Mathlib.Omega.{arith}
use borrow.Author.Tests.{le-leb}
use Rattle.columns.specs.Pair.{pair_at, with_pair}
use Rattle.automaton.specs.declared.Edition.TheVariants.{TransitionBased}
use Rattle.transition_lines.specs.TransitionLines.{marked_one, line_from}
use Rattle.transition_lines.proofs.marked_line.Goals as goal
use Rattle.transition_lines.proofs.marked_line.Goals.{In_ok-letter, In_ok-to}

-- what is left of the definition behind the letter, and then behind the two numbers at the end
behind : (c : In_ok-letter) →
    let a = c.args in
    line_from TransitionBased a.s.now a.at a.n a.k a.least a.from ≡
    with_pair (pair_at a.s.now (a.at + 7)) (λ to mark. marked_one a.n a.k a.least a.from c.in_ok-letter.letter to mark) None
unfolding line_from
behind c = simp (sym c.number_at.ensures, c.in_ok-letter.was)

last : (c : In_ok-to) →
    let a = c.args in
    line_from TransitionBased a.s.now a.at a.n a.k a.least a.from ≡
    marked_one a.n a.k a.least a.from c.in_ok-letter.letter c.in_ok-to.to c.in_ok-to.mark
unfolding line_from
last c = simp (sym c.number_at.ensures, c.in_ok-letter.was, sym c.pair_at.ensures, c.in_ok-to.was)

pub returns-in_err-letter : goal.returns-in_err-letter
unfolding line_from
returns-in_err-letter c = (c.from_residual.ensures ∙ simp (sym c.number_at.ensures, c.in_err-letter.was), rw c.from_residual.ensures tt)

pub returns-in_err-to : goal.returns-in_err-to
returns-in_err-to c =
    (c.from_residual-in_err-to.ensures ∙ sym (behind (goal.at.returns-in_err-to c).In_ok-letter ∙ simp (sym c.pair_at.ensures, c.in_err-to.was)), rw c.from_residual-in_err-to.ensures tt)

pub returns : goal.returns
unfolding marked_one
returns c =
    (sym (last (goal.at.returns c).In_ok-to ∙ simp (le-leb c.in_ok-to.mark 1 (omega arith), sym c.transition_of.ensures.0)), c.transition_of.ensures.1)
