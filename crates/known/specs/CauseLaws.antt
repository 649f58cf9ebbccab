-- The contracts of the verdict and of building, where the lent tables are long enough and the files are not too long: what leads to an outcome.
-- Assumes nothing.
use Rattle.std.specs.Prelude.{ℕ, ◌≤◌, ◌≡◌, refl, List, length, Err, Ok, Result}
use Rattle.std.proofs.Common.{ap, ◌∙◌, arith}
use Rattle.gate.specs.Gate.{refusal}
use Rattle.gate.specs.declared.Refusal.{Refusal}
use Rattle.automaton.specs.Automaton.{graph_of}
use Rattle.automaton.specs.Endless.{MeetingWitness}
use Rattle.format.specs.Format.{Sheet, FileIs, Faulty}
use Rattle.format.specs.Numbers.{numbers}
use Rattle.reading.specs.Read.{Accepted, Refuses}
use Rattle.tuple.specs.Step.{Tuple}
use Rattle.tracker.specs.declared.Tracker.{Tracker}
use Rattle.numbering.specs.Numbering.{Numbering, MoreThan}
use Rattle.filling.specs.TrackerTables.{TrackerTables, Holds, Fitted}
use Rattle.tracker.specs.Build.{BuildTables, EnoughToBuild}
use Rattle.building.specs.FileBuild.{Builds}
use Rattle.passes.specs.Letter.{letter_at}
use Rattle.plan.specs.Plan.{PlanIs}
use Rattle.plan.specs.Plan as Plan
use Rattle.passes.specs.declared.Verdict.{Verdict}
use Rattle.passes.specs.Passes.{Judges}
use Rattle.plan_verdict.specs.Verdict.{SizesFit, Refusing, Judgement}
use Rattle.known.specs.Case.{met}

-- the sheet file s and the room lead to the outcome o: refused by question 2 to 11, or its tuples are numbered, and what Then says holds of them
pub data Cause (s : List ℕ) (room : ℕ) (Outcomes : Type 0) (refuse : Refusal → Outcomes) (Then : Sheet → List Tuple → Type 0) (o : Outcomes) : Type 0 where
  -- 2 to 9, 15 and 16
  sheet-fault : (number line : ℕ) → Faulty s number line → o ≡ refuse (refusal number line) → Cause s room Outcomes refuse Then o
  -- 10
  meeting-walks : (σ : Sheet) → FileIs s σ → (t : ℕ) (word one other : List ℕ) → MeetingWitness (graph_of (numbers σ)) t word one other
      → o ≡ refuse (met t) → Cause s room Outcomes refuse Then o
  -- 11
  no_room : (σ : Sheet) → Accepted s σ → MoreThan (numbers σ) room → o ≡ refuse (refusal 11 0) → Cause s room Outcomes refuse Then o
  -- none of these
  numbered : (σ : Sheet) → Accepted s σ → (ts : List Tuple) → Numbering (numbers σ) ts → length ts ≤ room → Then σ ts → Cause s room Outcomes refuse Then o

-- then the plan file p leads to the outcome of a verdict
pub data PlanCause (p : List ℕ) (before after : TrackerTables) (o : Result Verdict Refusal) (σ : Sheet) (ts : List Tuple) : Type 0 where
  -- 12 to 14
  plan-fault : (number line : ℕ) → Plan.PlanFaulty σ p number line → o ≡ Err (refusal number line) → PlanCause p before after o σ ts
  -- yes or no
  verdict : Holds (numbers σ) ts before after → (lead cycle : List ℕ) → PlanIs σ p lead cycle
      → (z : Verdict) → Judges (numbers σ) (letter_at lead cycle) (length lead) (length cycle) z → o ≡ Ok z → PlanCause p before after o σ ts

-- or a tracker is built
pub record IsBuilt (before after : TrackerTables) (o : Result Tracker Refusal) (σ : Sheet) (ts : List Tuple) : Type 0 where
  pub holds : Holds (numbers σ) ts before after
  pub tracker : Tracker
  pub is : o ≡ Ok tracker
  pub counted : tracker.tuples ≡ length ts

module _ (s : List ℕ) (room : ℕ) (before after : BuildTables) (lent : EnoughToBuild room before) where
  sheet-cause : (Outcomes : Type 0) (refuse : Refusal → Outcomes) (Then : Sheet → List Tuple → Type 0) (o : Outcomes) (r : Refusal)
      → Refuses s before.witness after.witness r → o ≡ refuse r → Cause s room Outcomes refuse Then o
  sheet-cause Outcomes refuse Then o r (Refuses.faulty number line h e c) is = Cause.sheet-fault number line h (is ∙ ap refuse e)
  sheet-cause Outcomes refuse Then o r (Refuses.meeting σ file m) is =
      let witness = after.witness in
      Cause.meeting-walks σ file r.length witness.word witness.one witness.other m.witness
      (is ∙ λ i. refuse (record { number = m.number i; line = m.line i; length = r.length }))

  room-is : (σ : Sheet) (built : TrackerTables) (count : ℕ) (fitted : Fitted (numbers σ) room before.tracker built count) → length fitted.list ≤ room
  room-is σ built count fitted = omega (arith, fitted.count-is, fitted.room-is)

  module _ (p : List ℕ) (size : SizesFit s p) where
    abbrev PlannedThen : Result Verdict Refusal → Sheet → List Tuple → Type 0
    PlannedThen = PlanCause p before.tracker after.tracker

    refusing-cause : (o : Result Verdict Refusal) (r : Refusal) → Refusing s p room before after r → o ≡ Err r → Cause s room (Result Verdict Refusal) Err (PlannedThen o) o
    refusing-cause o r (Refusing.by_size long e c) is = absurd (long size)
    refusing-cause o r (Refusing.by-sheet fit h) is = sheet-cause (Result Verdict Refusal) Err (PlannedThen o) o r h is
    refusing-cause o r (Refusing.by-room fit σ accepted h e c) is = Cause.no_room σ accepted h (is ∙ ap Err e)
    refusing-cause o r (Refusing.by-plan fit σ accepted built count fitted number line fault e c) is =
        Cause.numbered σ accepted fitted.list fitted.holds.numbering (room-is σ built count fitted) (PlanCause.plan-fault number line fault (is ∙ ap Err e))

    pub verdict-cause : (o : Result Verdict Refusal) → Judgement s p room before after o → Cause s room (Result Verdict Refusal) Err (PlannedThen o) o
    verdict-cause o (Judgement.short short e same) = absurd (short lent)
    verdict-cause o (Judgement.refused l r h e x y) = refusing-cause o r h e
    verdict-cause o (Judgement.judged l d σ accepted count fitted lead cycle z h is e x) =
        Cause.numbered σ accepted fitted.list fitted.holds.numbering (room-is σ after.tracker count fitted)
        (PlanCause.verdict fitted.holds lead cycle h.plan z h.judged is)

  pub build-cause : (o : Result Tracker Refusal) → Builds s room before after o → Cause s room (Result Tracker Refusal) Err (IsBuilt before.tracker after.tracker o) o
  build-cause o (Builds.short short e same) = absurd (short lent)
  build-cause o (Builds.refused l r h e x y) = sheet-cause (Result Tracker Refusal) Err (IsBuilt before.tracker after.tracker o) o r h e
  build-cause (Err r) (Builds.asked l σ accepted z (h, e, y) x) = Cause.no_room σ accepted h (ap Err e)
  build-cause (Ok x) (Builds.asked l σ accepted z (n, fitted) e) =
      Cause.numbered σ accepted fitted.list fitted.holds.numbering (room-is σ after.tracker x.tuples fitted)
      (record { holds = fitted.holds; tracker = x; is = refl; counted = fitted.count-is })
