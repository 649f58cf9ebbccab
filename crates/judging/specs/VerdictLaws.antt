-- The verdict's contract from what its parts ensure. Assumes nothing.
use Rattle.std.specs.Prelude.{ℕ, refl, ◌≡◌, List, length, Err, Ok, Result}
use Rattle.std.proofs.Common.{sym, subst, ◌∙◌}
use Rattle.gate.specs.declared.Refusal.{Refusal}
use Rattle.automaton.specs.Automaton.{TransitionSets, Fits}
use Rattle.lent.specs.Lent.{cleared_witness, cleared_sets, lent_sets}
use Rattle.format.specs.Format.{Sheet}
use Rattle.format.specs.Numbers.{numbers}
use Rattle.format.proofs.NumbersLaws.{sheet-fits}
use Rattle.parser.specs.LettersOf.{LettersOf}
use Rattle.parser.proofs.UniqueLaws.{file-unique}
use Rattle.reading.specs.Read.{Accepted}
use Rattle.passes.specs.Letter.{letter_at}
use Rattle.plan.specs.Plan.{PlanIs}
use Rattle.filling.specs.TrackerTables.{TrackerTables, cleared_tracker, Fitted}
use Rattle.tracker.specs.Build.{BuildTables, build_tables, EnoughToBuild}
use Rattle.building.specs.FileBuild.{Builds}
use Rattle.building.specs.FileBuildLaws.{file-built}
use Rattle.filling.proofs.FittedLaws.{fitted-cleared}
use Rattle.tracker.specs.declared.Tracker.{Tracker}
use Rattle.passes.specs.declared.Verdict.{Verdict}
use Rattle.plan_verdict.specs.Verdict.{SizesFit, Verdicts, Refusing, Judgement}
use Rattle.passes.specs.TableRun.{TablesFit, TableJudges}
use Rattle.plan_verdict.specs.Parts.{PlanJudged, PlanLeft}
use Rattle.plan_verdict.specs.PlanLaws.{letters-below}
use Rattle.passes.proofs.FollowLaws.{tables-fit, judges}
use Rattle.passes.proofs.SoundLaws.{sound}

-- THE VERDICT on an accepted sheet's tracker
verdicts : (s : List ℕ) (σ : Sheet) → Accepted s σ → (room : ℕ) (before after : TrackerTables) (count : ℕ) → Fitted (numbers σ) room before after count
    → (p lead cycle : List ℕ) (z : Verdict) → PlanIs σ p lead cycle
    → TableJudges after.tuples after.nexts count (letter_at lead cycle) (length lead) (length cycle) z → Verdicts σ p lead cycle count z
unfolding numbers
verdicts s σ accepted room before after count fitted p lead cycle z plan table =
    let fits = sheet-fits s σ accepted.file in
    let letters = letters-below σ accepted.file.right p lead cycle plan in
    let judged = judges fits room count before after fitted (letter_at lead cycle) letters (length lead) (length cycle) z table in
    record {
      plan = plan;
      judged = judged;
      passes = table.passes;
      sound = sound fits accepted.free lead cycle plan.range.cycle-some letters z judged;
    }

-- behind questions 1 and 2
module _ {s p : List ℕ} {room : ℕ} {before after : BuildTables} (lent : EnoughToBuild room before) (sizes : SizesFit s p) where
  -- 3 to 11
  pub sheet-refused : {r : Refusal} → Builds s room before after (Err r) → Judgement s p room before after (Err r)
  sheet-refused (Builds.short n e same) = absurd (n lent)
  sheet-refused {r} (Builds.refused l x h e o c) = let f : Err r ≡ Err x = cc in Judgement.refused lent x (Refusing.by-sheet sizes h) f o c
  sheet-refused {r} (Builds.asked l σ accepted w (more, is, c) o) = Judgement.refused lent r (Refusing.by-room sizes σ accepted more is w) refl o c

  -- behind building, with the tracker y and names in rows
  module _ {rows : List ℕ} {y : Tracker} (built : Builds s room before after (Ok y)) (letters : LettersOf s rows y.numbers) where
    -- the sheet of both: a file is of one sheet
    abbrev σ : Sheet
    σ = letters.sheet

    accepted : Accepted s σ × (after.sets ≡ lent_sets (numbers σ) before.sets) × Fitted (numbers σ) room before.tracker after.tracker y.tuples
    accepted =
        let (l, (τ, a, are, o, h), w) = file-built built in
        subst (λ (υ : Sheet). Accepted s υ × (after.sets ≡ lent_sets (numbers υ) before.sets) × Fitted (numbers υ) room before.tracker after.tracker y.tuples)
        (file-unique s τ σ a.file letters.file) (a, o, h)

    fits : Fits (numbers σ)
    fits = sheet-fits s σ letters.file

    witness : after.witness ≡ cleared_witness before.witness
    witness = (file-built built).2

    pub tracker-tables : TablesFit after.tracker.tuples after.tracker.nexts y.tuples
    tracker-tables = tables-fit fits room y.tuples before.tracker after.tracker accepted.2 lent.tracker

    -- 12 to 14
    plan-refused : {sets : TransitionSets} {tracker : TrackerTables} {r : Refusal} → cleared_sets after.sets ≡ cleared_sets before.sets
        → PlanJudged σ p after.tracker.tuples after.tracker.nexts y.tuples (Err r) → sets ≡ cleared_sets after.sets
        → tracker ≡ cleared_tracker after.tracker → Judgement s p room before (build_tables sets after.witness tracker) (Err r)
    plan-refused {r = r} same (number, line, faulty, is) e zero =
        Judgement.refused lent r (Refusing.by-plan sizes σ accepted.0 after.tracker y.tuples accepted.2 number line faulty is witness) refl
        (e ∙ same)
        (zero ∙ fitted-cleared (numbers σ) fits room y.tuples before.tracker after.tracker accepted.2)

    -- the answer
    plan-judged : {z : Verdict} → PlanJudged σ p after.tracker.tuples after.tracker.nexts y.tuples (Ok z) → Judgement s p room before after (Ok z)
    plan-judged {z} (lead, cycle, plan, table) =
        let (a, o, fitted) = accepted in
        Judgement.judged lent sizes σ a y.tuples fitted lead cycle z
        (verdicts s σ a room before.tracker after.tracker y.tuples fitted p lead cycle z plan table) refl o witness

    -- either, with what is left of the tables
    pub plan-answered : {sets : TransitionSets} {tracker : TrackerTables} (o : Result Verdict Refusal) → cleared_sets after.sets ≡ cleared_sets before.sets
        → PlanJudged σ p after.tracker.tuples after.tracker.nexts y.tuples o → PlanLeft after.sets sets after.tracker tracker o
        → Judgement s p room before (build_tables sets after.witness tracker) o
    plan-answered (Err r) same plan (empty, zero) = plan-refused same plan empty zero
    plan-answered (Ok z) same plan (sets-kept, tracker-kept) =
        subst (λ (t : BuildTables). Judgement s p room before t (Ok z)) (λ i. build_tables (sym sets-kept i) after.witness (sym tracker-kept i)) (plan-judged plan)
