-- The phases one after the other, and what their answers mean of a plan. Assumes nothing.
use Rattle.std.specs.Prelude.{ℕ, ◌+◌, ◌≤◌, ◌≡◌, refl, List, [], map, length, Err, Ok, Result}
use Rattle.gate.specs.declared.Refusal.{Refusal}
use Rattle.std.proofs.Common.{sym, ◌∙◌, ap, subst}
use Rattle.std.proofs.Math.ListN.{length-map}
use Rattle.gate.specs.GateLaws.{passed-up, same-cleared}
use Rattle.columns.specs.Pair.{word_and_pair}
use Rattle.names.specs.Name.{compose}
use Rattle.name_rows.specs.Rows.{HoldNames, OnlyRow}
use Rattle.name_rows.specs.RowsLaws.{only_none}
use Rattle.superseding.specs.Superseding.{superseding_in}
use Rattle.format.specs.Format.{Sheet}
use Rattle.format.specs.Withdrawals.{superseding_of}
use Rattle.frame.specs.declared.Position.{Position}
use Rattle.frame.specs.Phase.{passed, first_phase, end_at}
use Rattle.frame.specs.Answers.{first_answer, FirstFits, end_answer}
use Rattle.frame.specs.FirstLaws.{first-passed, first-refused}
use Rattle.plan_lines.specs.PlanLines.{most_plan}
use Rattle.plan_lines.specs.LetterLines.{letters_at, LettersRead}
use Rattle.plan_lines.specs.StepLaws.{superseding-still}
use Rattle.parser.specs.LettersOf.{LettersIn}
use Rattle.plan.specs.Plan.{plan_word, LengthsRight}
use Rattle.plan.specs.Parse.{lengths, plan_bounds, plan_head_of, plan_of}
use Rattle.plan.specs.Answers.{planned}
use Rattle.plan.specs.Read.{ReadsPlan}
use Rattle.plan.specs.ReadLaws.{reads}
use Rattle.plan.specs.FileLaws.{EndLeaves, letters-refused, plan-ended}
use Rattle.plan.proofs.whole_file.read_plan.Goals as goal

-- behind the first line: both lengths are read, and in range
in-range : (lead cycle : ℕ) {w : Result (ℕ × ℕ) Refusal} → w ≡ Ok (lead, cycle) → FirstFits plan_bounds w → LengthsRight lead cycle
in-range lead cycle is h =
    let f = subst (FirstFits plan_bounds) is h in
    record { lead-most = f.1; cycle-some = f.2; cycle-most = f.3 }

read : (p : List ℕ) (lead cycle : ℕ) {w : Result (ℕ × ℕ) Refusal} → w ≡ Ok (lead, cycle)
    → w ≡ first_answer (first_phase (word_and_pair p plan_word) plan_bounds (λ a b. (a, b)) 12 13) → plan_head_of p ≡ passed (lengths lead cycle)
unfolding plan_head_of
read p lead cycle is h = first-passed plan_bounds lengths 12 13 (word_and_pair p plan_word) lead cycle (sym is ∙ h)

-- behind the name lines: the rows were `first`, the buffer was t, and both are `rows` and u then
module _ (p first rows t u : List ℕ) (k lead cycle : ℕ) {w : Result Position Refusal} (few : k ≤ 8) (only : OnlyRow k first rows)
    (answers : (names : List (List ℕ)) → length names ≡ k → HoldNames names first →
    HoldNames names rows × LettersRead (letters_at names (superseding_in first) p 2 11 [] (lead + cycle)) (lead + cycle) t u w) where
  -- their answer v, for a sheet whose names the rows hold
  lettered-as : (v : Result Position Refusal) → w ≡ v → (σ : Sheet) → LettersIn σ k first →
      LettersIn σ k rows
      × LettersRead (letters_at (map compose σ.names) (superseding_of σ.withdrawals) p 2 11 [] (lead + cycle)) (lead + cycle) t u v
  lettered-as v e σ g =
      let (held, answer) = answers (map compose σ.names) (length-map σ.names compose ∙ g.all-names) g.holds in (
        record {
          letters = g.letters;
          all-names = g.all-names;
          holds = held;
          withdrawals = g.withdrawals;
          superseding = superseding-still few only ∙ g.superseding;
        },
        subst (λ (cells : List ℕ). LettersRead (letters_at (map compose σ.names) cells p 2 11 [] (lead + cycle)) (lead + cycle) t u v) g.superseding
            (subst (LettersRead (letters_at (map compose σ.names) (superseding_in first) p 2 11 [] (lead + cycle)) (lead + cycle) t u) e answer),
      )

  -- behind the last line: its answer r, and what the buffer holds then
  ended : (place : Position) (v : List ℕ) {x : Result Unit Refusal} (r : Result Unit Refusal) → length p ≤ most_plan → plan_head_of p ≡ passed (lengths lead cycle) → w ≡ Ok place
      → x ≡ end_answer (end_at 12 p place.line place.at []) → x ≡ r → EndLeaves t u v r → (σ : Sheet) → LettersIn σ k first →
      LettersIn σ k rows × ReadsPlan σ p t v (planned (lengths lead cycle) r)
  unfolding plan_of
  ended place v r size head is end told left σ g =
      let z = lengths lead cycle in
      let (held, answer) = lettered-as (Ok place) is σ g in (
        held,
        reads g few p t v size (planned z r)
            (rw head (plan-ended p t u z v (letters_at (map compose σ.names) (superseding_of σ.withdrawals) p 2 11 [] (lead + cycle)) place r answer (sym told ∙ end) left)),
      )

pub returns-in-Err : goal.returns-in-Err
unfolding plan_of plan_head_of
returns-in-Err c =
    let a = c.args in
    let r = c.in-Err.r in
    let clear = c.clear_bytes in
    let (number, line, e, f) = first-refused plan_bounds lengths 12 13 (word_and_pair a.p.now plan_word) r (sym c.in-Err.is ∙ c.first_line.ensures.0) in (
      tt,
      λ σ g. (g, reads g c.requires.1 a.p.now a.letters.now clear.new.bytes c.requires.0 (Err r) (rw f (ap Err e, clear.ensures))),
      only_none _ _,
    )

pub returns-in_err-place : goal.returns-in_err-place
unfolding plan_of
returns-in_err-place c =
    let a = c.args in
    let p = a.p.now in
    let lead = c.in-Ok.lengths.0 in
    let cycle = c.in-Ok.lengths.1 in
    let r = c.in_err-place.field-0.0 in
    let rows = c.read_letters.new.rows in
    let u = c.read_letters.new.letters in
    rw (passed-up c.from_residual.result r c.from_residual.ensures.1) (
      tt,
      λ σ g.
          (let (held, answer) = lettered-as p a.rows.now rows a.letters.now u a.k lead cycle c.requires.1 c.read_letters.ensures.2 c.read_letters.ensures.1 (Err r) c.in_err-place.was σ g in (
            held,
            reads g c.requires.1 p a.letters.now u c.requires.0 (Err r)
                (rw (read p lead cycle c.in-Ok.is c.first_line.ensures.0)
                (letters-refused p a.letters.now u (lengths lead cycle) (letters_at (map compose σ.names) (superseding_of σ.withdrawals) p 2 11 [] (lead + cycle)) r answer)),
          )),
      c.read_letters.ensures.2,
    )

pub returns-in-Err-end_line : goal.returns-in-Err-end_line
returns-in-Err-end_line c =
    let a = c.args in
    let p = a.p.now in
    let lead = c.in-Ok.lengths.0 in
    let cycle = c.in-Ok.lengths.1 in
    let u = c.read_letters.new.letters in
    let clear = c.clear_bytes-in-Err-end_line in (
      tt,
      ended p a.rows.now c.read_letters.new.rows a.letters.now u a.k lead cycle c.requires.1 c.read_letters.ensures.2 c.read_letters.ensures.1
          c.in_ok-place.place clear.new.bytes (Err c.in-Err-end_line.r) c.requires.0 (read p lead cycle c.in-Ok.is c.first_line.ensures.0)
          c.in_ok-place.was c.end_line.ensures c.in-Err-end_line.is (clear.ensures ∙ same-cleared a.letters.now u c.read_letters.auto.letters),
      c.read_letters.ensures.2,
    )

pub returns : goal.returns
returns c =
    let a = c.args in
    let p = a.p.now in
    let lead = c.in-Ok.lengths.0 in
    let cycle = c.in-Ok.lengths.1 in
    let u = c.read_letters.new.letters in (
      in-range lead cycle c.in-Ok.is c.first_line.ensures.1,
      ended p a.rows.now c.read_letters.new.rows a.letters.now u a.k lead cycle c.requires.1 c.read_letters.ensures.2 c.read_letters.ensures.1
          c.in_ok-place.place u (Ok tt) c.requires.0 (read p lead cycle c.in-Ok.is c.first_line.ensures.0)
          c.in_ok-place.was c.end_line.ensures c.in_default.is refl,
      c.read_letters.ensures.2,
    )
