-- By the mark, and where there is none by whether the place is emptied. Assumes nothing.
use mathlib.Core.Path.{sym}
use Rattle.colour.specs.Colour.{changed, colour_at}
use Rattle.colour.proofs.colour_at.Goals.{then-mark-via-then-mark, then-mark-via-else-mark+then-emptied}
use Rattle.colour.proofs.colour_at.Goals as goal

pub returns-then-mark : goal.returns-then-mark
unfolding changed colour_at
returns-then-mark c =
    elim c.then-mark.branch [
      | then-mark-via-then-mark w ↦ simp (w.if-mark.true, c.changed.ensures)
      | then-mark-via-else-mark+then-emptied w ↦
          simp (w.if-mark.false, sym c.is_emptied-emptied.ensures, w.if-emptied.true, c.changed.ensures)
    ]

pub returns : goal.returns
unfolding colour_at
returns c =
    let e = c.is_emptied-emptied.ensures in
    simp (c.if-mark.false, sym e, c.if-emptied.false) c.neutral.ensures
