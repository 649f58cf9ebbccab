-- `verdict` prints the line of what judging answers, an input that is too long has one answer, and what is read of the input is enough. Assumes nothing.
use Rattle.std.specs.Prelude.{ℕ, ◌+◌, ◌≤◌, ◌<◌, ◌≡◌, refl, List, [], ◌↔◌, length, take, drop, Err, Ok, Result}
use Rattle.passes.specs.declared.Verdict.{Verdict}
use Rattle.gate.specs.declared.Refusal.{Refusal}
use Rattle.std.proofs.Common.{ap, subst, ◌∙◌, arith, length-drop, length-take-le}
use Rattle.gate.specs.Gate.{refusal, lent_text}
use Rattle.automaton.specs.Automaton.{transition_sets}
use Rattle.lent.specs.Lent.{witness_tables}
use Rattle.text.specs.Bytes.{stretch}
use Rattle.text.specs.BytesLaws.{stretch-end}
use Rattle.filling.specs.TrackerTables.{tracker_tables}
use Rattle.tracker.specs.Build.{BuildTables, build_tables, EnoughToBuild}
use Rattle.passes.specs.Passes.{is_yes}
use Rattle.plan_verdict.specs.Verdict.{SizesFit, Refusing, Judgement}
use Rattle.report.specs.Report.{refusal_line, line_of}
use Rattle.report.specs.ReportLaws.{refusal-length, verdict-length}
use Rattle.sheet_end.specs.Split.{SheetEnds}
use Rattle.sheet_end.specs.SplitLaws.{ends-within, some_end}
use Rattle.report.specs.Output.{program_room, Prints, TooLong}
use Rattle.report.specs.OutputLaws.{enough}
use Rattle.verdict_output.specs.Verdict.{longest_verdict, most_input, VerdictOn, VerdictOutput}
use Rattle.verdict_output.specs.Parts.{outcome_line}

-- AN INPUT THAT IS TOO LONG, wherever its sheet ends

-- one of both parts is
no-sizes : (s : List ℕ) (e : ℕ) → most_input < length s → SheetEnds s e → SizesFit (take e s) (drop e s) → ⊥
no-sizes s e long split fit =
    let h = ends-within s e split in
    omega (arith, length-take-le e s h, length-drop e s, fit.sheet, fit.plan)

only-size : (s p text : List ℕ) → (SizesFit s p → ⊥) → VerdictOn s p text → text ≡ refusal_line 2 0
only-size s p text not (VerdictOn.refused before after r (Refusing.by_size n e z) q) = q ∙ ap line_of e
only-size s p text not (VerdictOn.refused before after r (Refusing.by-sheet fit x) q) = absurd (not fit)
only-size s p text not (VerdictOn.refused before after r (Refusing.by-room fit σ x m e z) q) = absurd (not fit)
only-size s p text not (VerdictOn.refused before after r (Refusing.by-plan fit σ x built count h number line y e z) q) = absurd (not fit)
only-size s p text not (VerdictOn.judged fit σ x before after count h lead cycle z y q) = absurd (not fit)

by_size : (s p text : List ℕ) → (SizesFit s p → ⊥) → text ≡ refusal_line 2 0 → VerdictOn s p text
by_size s p text not q =
    let none = build_tables (transition_sets [] []) (witness_tables [] [] []) (tracker_tables [] []) in
    VerdictOn.refused none none (refusal 2 0) (Refusing.by_size not refl refl) q

pub too-long-verdict : TooLong VerdictOutput most_input (refusal_line 2 0)
too-long-verdict s text long =
    let (e, split) = some_end s in (
      λ o. only-size _ _ text (no-sizes s o.end long o.split) o.on,
      λ q. record { end = e; split = split; on = by_size _ _ text (no-sizes s e long split) q },
    )

-- the first 45,057 bytes of the input are enough
pub verdict-enough : (s text : List ℕ) → VerdictOutput s text ↔ VerdictOutput (take (most_input + 1) s) text
verdict-enough = enough too-long-verdict

-- THE ANSWERS OF JUDGING, in tables that are long enough

outcome-length : (o : Result Verdict Refusal) → length (outcome_line o) ≡ 12
outcome-length (Err r) = refusal-length r.number r.line
outcome-length (Ok z) = verdict-length (is_yes z.answer) z.least z.passes

judgement-on : {s p : List ℕ} {before after : BuildTables} {o : Result Verdict Refusal} → EnoughToBuild program_room before → Judgement s p program_room before after o
    → VerdictOn s p (outcome_line o)
judgement-on lent (Judgement.short n e same) = absurd (n lent)
judgement-on {before = before} {after} lent (Judgement.refused l r x e y z) = VerdictOn.refused before after r x (ap outcome_line e)
judgement-on {before = before} {after} lent (Judgement.judged l fit σ x count h lead cycle z y e p q) =
    VerdictOn.judged fit σ x before.tracker after.tracker count h lead cycle z y (ap outcome_line e)

-- the sheet is what stands before its end, and the plan is the rest
pub judgement-output : {s : List ℕ} {before after : BuildTables} {o : Result Verdict Refusal} (e : ℕ) → SheetEnds s e → EnoughToBuild program_room before
    → Judgement (take e s) (stretch s e (length s)) program_room before after o → VerdictOutput s (outcome_line o)
judgement-output {s} {o = o} e split lent j =
    record { end = e; split = split; on = subst (λ (p : List ℕ). VerdictOn (take e s) p (outcome_line o)) (stretch-end s e) (judgement-on lent j) }

-- the line of an outcome at the front of a buffer
pub line-prints : {s line b c : List ℕ} {count : ℕ} (o : Result Verdict Refusal) → VerdictOutput s (outcome_line o) → line ≡ outcome_line o → longest_verdict ≤ length b
    → (count ≡ length line) × (c ≡ lent_text line b) → Prints (VerdictOutput s) longest_verdict b c count
line-prints {s} {line} {b} o out e long (n, f) =
    let k = outcome-length o in
    Prints.printed long (outcome_line o) out (n ∙ ap length e) (omega arith) (f ∙ ap (λ (x : List ℕ). lent_text x b) e)
