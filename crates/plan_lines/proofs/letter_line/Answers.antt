-- The definition's cases; the letter found is the one that finally stands for the first whose name it is. Assumes nothing.
use Rattle.std.specs.Prelude.{ℕ, ◌+◌, ◌*◌, ◌≤◌, ◌≡◌, List, length, Some}
use Rattle.std.proofs.Common.{sym, ◌∙◌, ap, arith}
use Rattle.std.proofs.lemmas.List.Edits.{sets}
use Rattle.gate.specs.Gate.{padded}
use Rattle.text.specs.Bytes.{stretch}
use Rattle.names.specs.Name.{compose}
use Rattle.names.specs.Scan.{name_end_at}
use Rattle.names.specs.ScanLaws.{name-is}
use Rattle.names.specs.NameLaws.{composed-name}
use Rattle.name_rows.specs.LetterLaws.{letter-is}
use Rattle.name_rows.specs.Rows.{OnlyRow}
use Rattle.name_rows.specs.RowsLaws.{only_none, only-stored}
use Rattle.superseding.specs.Superseding.{superseding_in, final_letter}
use Rattle.plan_lines.specs.StepLaws.{line-bad, line_known, line-unknown, superseding-still}
use Rattle.plan_lines.proofs.letter_line.Goals as goal

-- the name goes into the row behind the k rows
stored : (p rows new : List ℕ) (at e k : ℕ) → name_end_at p at ≡ Some e → 24 * k + 24 ≤ length rows
    → new ≡ sets rows (24 * k) (padded 24 (compose (stretch p at e))) → OnlyRow k rows new
stored p rows new at e k end fits is =
    only-stored rows k (compose (stretch p at e)) fits (composed-name (stretch p at e) (name-is p at e end).name).most new is

pub returns-in_default : goal.returns-in_default
returns-in_default c =
    (tt, λ names n h. (sym (line-bad names _ _ _ (sym c.name_end.ensures.0 ∙ c.in_default.is)), h), only_none _ _)

pub returns-then-l-k : goal.returns-then-l-k
returns-then-l-k c =
    let a = c.args in
    let e = c.in-Some.e in
    let l = c.letter_of-l.result in
    let end : name_end_at a.p.now a.at ≡ Some e = sym c.name_end.ensures.0 ∙ c.in-Some.is in
    let within = c.in-Some.ensures.1 in
    let only : OnlyRow a.k a.rows.now c.letter_of-l.new.rows = stored a.p.now a.rows.now c.letter_of-l.new.rows a.at e a.k end (omega arith) c.letter_of-l.ensures.0 in
    let stands : final_letter (superseding_in a.rows.now) l ≡ c.final_letter.result =
    ap (λ (cells : List ℕ). final_letter cells l) (sym (superseding-still c.requires.1 only)) ∙ sym c.final_letter.ensures.0 in (
      (c.final_letter.ensures.1, within.2),
      λ names n h.
          (let f = c.letter_of-l.ensures.1 names n h (name-is a.p.now a.at e end).name in
          (sym (line_known names (superseding_in a.rows.now) a.p.now a.at e l end (letter-is names _ _ f.0) stands (omega arith)), f.1)),
      only,
    )

pub returns : goal.returns
returns c =
    let a = c.args in
    let e = c.in-Some.e in
    let l = c.letter_of-l.result in
    let end : name_end_at a.p.now a.at ≡ Some e = sym c.name_end.ensures.0 ∙ c.in-Some.is in (
      tt,
      λ names n h.
          (let f = c.letter_of-l.ensures.1 names n h (name-is a.p.now a.at e end).name in
          (sym (line-unknown names (superseding_in a.rows.now) a.p.now a.at e l end (letter-is names _ _ f.0) (omega arith)), f.1)),
      stored a.p.now a.rows.now c.letter_of-l.new.rows a.at e a.k end (omega arith) c.letter_of-l.ensures.0,
    )
