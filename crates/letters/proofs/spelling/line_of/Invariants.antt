-- The loop's invariant: as many lines below the place reached as are left to pass stands the line sought. Assumes nothing.
use Prim.Native.Nat.{◌+◌, ◌-◌, ◌*◌, ◌≤◌}
use mathlib.Core.Path.{◌≡◌}
use Rattle.letters.specs.Spelling.{line_below}
use Rattle.letters.proofs.spelling.line_of.Given as goal

abbrev pub invariant-loop : goal.invariant-loop
invariant-loop l = (l.at ≤ 12 + 30 * l.counter) × (line_below l.s l.at (l.letter - l.counter) ≡ line_below l.s 12 l.letter)
