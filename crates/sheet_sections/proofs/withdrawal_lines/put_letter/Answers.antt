-- `sheet_sections::withdrawal_lines::put_letter` meets its contract: a letter in force has no line. Assumes nothing.
use mathlib.Core.Path.{◌≡◌, refl, sym, ◌∙◌}
use native.Mathlib.Omega.{arith}
use lib.ListN.{length}
use Rattle.superseding.specs.Superseding.{superseding_in}
use Rattle.sheet_sections.specs.RowWithdrawals.{withdrawal_text}
use Rattle.sheet_sections.specs.RowWithdrawalsLaws.{text_in-force, text-withdrawn, length-withdrawn}
use Rattle.sheet_sections.proofs.withdrawal_lines.put_letter.Goals as goal
use Rattle.sheet_sections.proofs.withdrawal_lines.put_letter.Goals.{Else-by-eq0}

-- the letter's line has 8 bytes
eight : (c : Else-by-eq0) →
    let a = c.args in
    length (withdrawal_text (superseding_in a.rows.now) a.l) ≡ 8
eight c =
    let a = c.args in
    length-withdrawn (superseding_in a.rows.now) a.l (λ e. c.if-by-eq0.false (c.superseding-by.ensures.0 ∙ e))

pub returns-then-by-eq0 : goal.returns-then-by-eq0
returns-then-by-eq0 c =
    let a = c.args in
    rw (text_in-force (superseding_in a.rows.now) a.l (sym c.superseding-by.ensures.0 ∙ c.if-by-eq0.true)) (omega arith, refl)

pub put_withdrawal-requires : goal.put_withdrawal-requires
put_withdrawal-requires c = omega (arith, eight (goal.at.put_withdrawal-requires c).Else-by-eq0)

pub overflow_add-result : goal.overflow_add-result
overflow_add-result c = omega (arith, eight (goal.at.overflow_add-result c).Else-by-eq0)

pub returns : goal.returns
returns c =
    let a = c.args in
    (omega (arith, eight (goal.at.returns c).Else-by-eq0), rw (text-withdrawn (superseding_in a.rows.now) a.l (λ e. c.if-by-eq0.false (c.superseding-by.ensures.0 ∙ e)), ← c.superseding-by.ensures.0) c.put_withdrawal.ensures)
