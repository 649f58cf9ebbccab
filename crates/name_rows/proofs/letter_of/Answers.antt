-- The stretch is composed into the row behind the names, and the first row like it tells the letter. Assumes nothing.
use Prim.Native.Nat.{ℕ}
use mathlib.Core.Path.{sym, subst}
use mathlib.Core.List.{List}
use Rattle.text.specs.Bytes.{stretch}
use Rattle.names.specs.Name.{compose}
use Rattle.names.specs.NameLaws.{composed-name}
use Rattle.name_rows.specs.Rows.{HoldNames, FirstLike}
use Rattle.name_rows.specs.RowsLaws.{holds-still, row-tells}
use Rattle.name_rows.proofs.letter_of.Goals as goal

pub returns : goal.returns
returns c =
    let a = c.args in
    let s = a.s.now in
    let rows = a.rows.now in
    let x = compose (stretch s a.start a.end) in
    let e = c.compose_into.ensures in
    let fits = c.requires.1 in
    let r = c.first_like.result in (
      e,
      λ names n h is.
          (let name = composed-name (stretch s a.start a.end) is in (
            row-tells names rows a.count x n fits h name r (subst (λ (v : List ℕ). FirstLike v a.count r) e c.first_like.ensures),
            subst (λ (v : List ℕ). HoldNames names v) (sym e) (holds-still names rows a.count x n fits h name),
          )),
    )
