-- The flags are the bits of the two sets. Assumes nothing.
use Rattle.std.proofs.Common.{ap, arith}
use Rattle.format.specs.Format.{state_line, state_width}
use Rattle.sheet_lines.proofs.put_state.Goals as goal

pub put_numbers-requires : goal.put_numbers-requires
put_numbers-requires c = omega (arith, ap state_width c.in-StateBased.is)

pub put_numbers-requires-in-TransitionBased : goal.put_numbers-requires-in-TransitionBased
put_numbers-requires-in-TransitionBased c = omega (arith, ap state_width c.in-TransitionBased.is)

pub returns-in-StateBased : goal.returns-in-StateBased
unfolding state_line
returns-in-StateBased c =
    rw (c.in-StateBased.is, ← c.flag-begins.ensures, ← c.flag-recurs.ensures) c.put_numbers.ensures

pub returns-in-TransitionBased : goal.returns-in-TransitionBased
unfolding state_line
returns-in-TransitionBased c = rw (c.in-TransitionBased.is, ← c.flag-begins.ensures) c.put_numbers-in-TransitionBased.ensures
