-- A line of a report: its length, and how it is written piece by piece. Assumes nothing.
use Rattle.std.specs.Prelude.{ℕ, ◌≡◌, refl, Bool, true, false, List, [], ◌∷◌, ◌++◌, length}
use Rattle.std.proofs.Common.{sym, ◌∙◌, arith, length-append}
use Rattle.std.proofs.lemmas.List.Edits.{sets}
use Rattle.text.specs.Bytes.{lf}
use Rattle.columns.specs.Column.{column}
use Rattle.columns.specs.ColumnLaws.{column-length}
use Rattle.lists.specs.StoreLaws.{sets-part, sets_over}
use Rattle.report.specs.Report.{report_line, refusal_line, verdict_line}

line-length : (word : List ℕ) (a b : ℕ) → length word ≡ 3 → length (report_line word a b) ≡ 12
unfolding report_line
line-length word a b h = simp (length-append, column-length, h)

pub refusal-length : (number line : ℕ) → length (refusal_line number line) ≡ 12
refusal-length number line = line-length _ number line refl

pub verdict-length : (passed : Bool) (least passes : ℕ) → length (verdict_line passed least passes) ≡ 12
verdict-length true least passes = line-length _ least passes refl
verdict-length false least passes = line-length _ least passes refl

pub line-put : (out word : List ℕ) (a b : ℕ) → length out ≡ 12 → length word ≡ 3
    → sets (sets (sets (sets out 0 word) 3 (column 3 a)) 6 (column 5 b)) 11 (lf ∷ []) ≡ report_line word a b
unfolding report_line
line-put out word a b e h =
    let x = sets out 0 word in
    let y = sets x 3 (column 3 a) in
    sym (sets-part word (column 3 a ++ (column 5 b ++ (lf ∷ []))) out 0 3 (omega arith)
    ∙ sets-part (column 3 a) (column 5 b ++ (lf ∷ [])) x 3 6 (omega (arith, column-length 3 a))
    ∙ sets-part (column 5 b) (lf ∷ []) y 6 11 (omega (arith, column-length 5 b)))
    ∙ sets_over out (report_line word a b) (e ∙ sym (line-length word a b h))
