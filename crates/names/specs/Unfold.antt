-- All definitions of this crate and of those below it that unfold, for laws that hold by computation.
use Rattle.columns.specs.Unfold.{columns_unfold}
use Rattle.names.specs.Name
use Rattle.names.specs.Scan

unfoldable pub names_unfold : Unit {0}
unfolding columns_unfold Name.one_of Name.is_umlaut Name.is_vowel Name.umlaut_of Name.name_bytes Name.compose Scan.width_of Scan.width_at Scan.parts_end
    Scan.name_end_at
names_unfold = tt
