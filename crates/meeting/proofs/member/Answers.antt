-- The invariant: no number below q is a member. Assumes nothing.
use native.Mathlib.Omega.{arith}
use Rattle.sets.specs.TestLaws.{last-member}
use Rattle.meeting.proofs.member.Goals as goal

pub returns : goal.returns
returns c = (omega arith, last-member c.args.set c.ranges.set.fits c.requires (λ j h. c.loop-q.invariant j (omega arith)))
