-- The word is the edition's. Assumes nothing.
use Rattle.format.specs.Format.{head_line}
use Rattle.sheet_lines.proofs.put_head.Goals as goal

pub returns-in-StateBased : goal.returns-in-StateBased
unfolding head_line
returns-in-StateBased c = rw c.in-StateBased.is c.put_numbers.ensures

pub returns-in-TransitionBased : goal.returns-in-TransitionBased
unfolding head_line
returns-in-TransitionBased c = rw c.in-TransitionBased.is c.put_numbers-in-TransitionBased.ensures
