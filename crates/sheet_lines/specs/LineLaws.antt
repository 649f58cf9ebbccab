-- A name's line that is stored part by part is stored as a whole. Assumes nothing.
use Rattle.std.specs.Prelude.{ℕ, suc, ◌+◌, ◌≡◌, List, [], ◌∷◌, length, set}
use Rattle.std.proofs.Common.{sym, arith}
use Rattle.std.proofs.lemmas.List.Edits.{sets}
use Rattle.text.specs.Bytes.{lf, space}
use Rattle.columns.specs.Column.{column}
use Rattle.lists.specs.StoreLaws.{sets-append}
use Rattle.format.specs.Format.{name_line}

pub name-stored : (out : List ℕ) (at l : ℕ) (name : List ℕ) →
    set (sets (set (sets (set out at 78) (at + 1) (column 3 l)) (at + 4) space) (at + 5) name) (at + 5 + length name) lf ≡ sets out at (name_line l name)
unfolding name_line column
name-stored out at l name =
    let one : at + 1 ≡ suc at = omega arith in
    let four : at + 4 ≡ suc (suc (suc (suc at))) = omega arith in
    let five : at + 5 ≡ suc (suc (suc (suc (suc at)))) = omega arith in
    rw (one, four, five) (sym (sets-append name (lf ∷ []) _ (suc (suc (suc (suc (suc at)))))))
