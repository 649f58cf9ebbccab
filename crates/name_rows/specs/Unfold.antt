-- All definitions of this crate and of those below it that unfold, for laws that hold by computation.
use Rattle.names.specs.Unfold.{names_unfold}
use Rattle.name_rows.specs.Row

unfoldable pub name_rows_unfold : Unit {0}
unfolding names_unfold Row.diaeresis_at
name_rows_unfold = tt
