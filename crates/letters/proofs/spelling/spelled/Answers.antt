-- The stretch of the name in the letter's line. Assumes nothing.
use mathlib.Core.Path.{sym}
use Rattle.letters.specs.Spelling.{spelled_at, spelling}
use Rattle.letters.proofs.spelling.spelled.Goals as goal

pub returns-in_default : goal.returns-in_default
unfolding spelling spelled_at
returns-in_default c =
    simp (
      sym c.line_of-at.ensures.0,
      sym c.name_end.ensures.0,
      c.in_default.is,
    )

pub returns : goal.returns
unfolding spelling spelled_at
returns c =
    simp (
      sym c.line_of-at.ensures.0,
      sym c.name_end.ensures.0,
      c.in-Some.is,
    )
