-- The invariant: on no letter below l is there a transition into the set. Assumes nothing.
use mathlib.Core.Path.{◌∙◌}
use native.Mathlib.Omega.{arith}
use Rattle.gate.specs.GateLaws.{decides-yes, decides-no}
use Rattle.endless.specs.ClosedLaws.{steps_on, steps-none}
use Rattle.endless.proofs.steps_into.Goals as goal

pub returns-then-inter-ne0 : goal.returns-then-inter-ne0
returns-then-inter-ne0 c =
    decides-yes (steps_on c.requires.0 c.loop-l.l c.loop-l-test.true (λ e. c.if-inter-ne0.true (c.inter.ensures ∙ e)))

pub returns : goal.returns
returns c = decides-no (steps-none c.requires.0 (λ m h. c.loop-l.invariant m (omega arith)))
