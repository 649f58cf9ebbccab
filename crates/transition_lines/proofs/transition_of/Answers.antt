-- Each answer is what the tests passed make of the definition. Assumes nothing.
use Rattle.std.specs.Prelude.{None, Some}
use Prim.Native.Nat.{◌+◌, ◌*◌}
use mathlib.Core.Path.{◌≡◌}
use mathlib.Core.Bool.{Bool, true, false}
use lib.Dec.{leb}
use native.Mathlib.Omega.{arith}
use borrow.Author.Tests.{lt-ltb, le-ltb, lt-leb, le-leb}
use Rattle.lists.specs.Choice.{choose}
use Rattle.transition_lines.specs.TransitionLines.{transition_of}
use Rattle.transition_lines.proofs.transition_of.Goals as goal
use Rattle.transition_lines.proofs.transition_of.Goals.{Else-to-n}

-- behind the range, the order decides
ordered : (c : Else-to-n) →
    let a = c.args in
    (t : Bool) → leb a.least ((8 * a.from + a.letter) * 16 + a.to) ≡ t →
    choose t (Some (a.from, a.letter, a.to, a.mark)) None ≡ transition_of a.n a.k a.least a.from a.letter a.to a.mark
unfolding transition_of
ordered c t e = simp (lt-ltb _ _ c.if-from-n.false, lt-ltb _ _ c.if-letter-k.false, lt-ltb _ _ c.if-to-n.false, e)

pub returns-then-from-n : goal.returns-then-from-n
unfolding transition_of
returns-then-from-n c = (simp (le-ltb _ _ c.if-from-n.true), tt)

pub returns-then-letter-k : goal.returns-then-letter-k
unfolding transition_of
returns-then-letter-k c = (simp (lt-ltb _ _ c.if-from-n.false, le-ltb _ _ c.if-letter-k.true), tt)

pub returns-then-to-n : goal.returns-then-to-n
unfolding transition_of
returns-then-to-n c =
    (simp (lt-ltb _ _ c.if-from-n.false, lt-ltb _ _ c.if-letter-k.false, le-ltb _ _ c.if-to-n.true), tt)

pub returns-then-from-letter : goal.returns-then-from-letter
returns-then-from-letter c =
    (ordered (goal.at.returns-then-from-letter c).Else-to-n false (lt-leb _ _ c.if-from-letter.true), tt)

pub returns : goal.returns
returns c =
    (ordered (goal.at.returns c).Else-to-n true (le-leb _ _ c.if-from-letter.false), omega arith)
