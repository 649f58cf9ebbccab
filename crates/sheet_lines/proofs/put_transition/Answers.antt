-- A transition's numbers are those of its place. Assumes nothing.
use Rattle.std.proofs.Common.{ap, arith}
use Rattle.format.specs.Format.{transition_line, transition_width}
use Rattle.sheet_lines.proofs.put_transition.Goals as goal

pub put_numbers-requires : goal.put_numbers-requires
put_numbers-requires c = omega (arith, ap transition_width c.in-StateBased.is)

pub put_numbers-requires-in-TransitionBased : goal.put_numbers-requires-in-TransitionBased
put_numbers-requires-in-TransitionBased c = omega (arith, ap transition_width c.in-TransitionBased.is)

pub returns-in-StateBased : goal.returns-in-StateBased
unfolding transition_line
returns-in-StateBased c = rw c.in-StateBased.is c.put_numbers.ensures

pub returns-in-TransitionBased : goal.returns-in-TransitionBased
unfolding transition_line
returns-in-TransitionBased c = rw (c.in-TransitionBased.is, ← c.flag-mark.ensures) c.put_numbers-in-TransitionBased.ensures
