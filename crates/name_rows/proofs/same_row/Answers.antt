-- The rows are the same exactly if they are equal as slices. Assumes nothing.
use Rattle.std.proofs.Common.{◌≡◌, ◌+◌, ◌-◌, sym, ◌∙◌, true≢false, arith}
use Rattle.std.proofs.lemmas.Bool.Decides.{Decides-eqb}
use Rattle.std.proofs.lemmas.Slice.Eq.{slice_eq-Decides}
use Rattle.name_rows.specs.Row.{name_row}
use Rattle.name_rows.proofs.same_row.Goals as goal

pub returns : goal.returns
returns c =
    let k : c.args.a + 24 - c.args.a ≡ 24 = omega arith in
    let l : c.args.b + 24 - c.args.b ≡ 24 = omega arith in
    let same = slice_eq-Decides Decides-eqb (name_row c.args.rows.now c.args.a) (name_row c.args.rows.now c.args.b) c.eq.result (rw (k, l) at c.eq.ensures) in
    (same.0, λ no e. true≢false (sym (same.1 e) ∙ no))
