-- All definitions of this crate and of those below it that unfold, for laws that hold by computation.
use Rattle.text.specs.Unfold.{text_unfold}
use Rattle.columns.specs.Column
use Rattle.columns.specs.Number

unfoldable pub columns_unfold : Unit {0}
unfolding text_unfold Column.digit_byte Column.column Number.digit_of Number.value_of Number.number_of Number.number_at Number.is_numbered
columns_unfold = tt
