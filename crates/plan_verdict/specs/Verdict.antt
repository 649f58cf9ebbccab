-- What the verdict on a plan from two files answers, and what the lent tables hold then: demands 1 to 3 in one contract.
use Rattle.std.specs.Prelude.{ℕ, ◌≤◌, ◌≡◌, List, length, Err, Ok, Result}
use Rattle.gate.specs.Gate.{refusal}
use Rattle.gate.specs.declared.Refusal.{Refusal}
use Rattle.lent.specs.Lent.{cleared_witness, cleared_sets, lent_sets}
use Rattle.format.specs.Format.{Sheet, most_sheet}
use Rattle.format.specs.Numbers.{numbers}
use Rattle.reading.specs.Read.{Accepted, Refuses}
use Rattle.passes.specs.Letter.{letter_at}
use Rattle.plan.specs.Plan.{PlanIs, PlanFaulty}
use Rattle.plan_lines.specs.PlanLines.{most_plan}
use Rattle.numbering.specs.Numbering.{MoreThan}
use Rattle.filling.specs.TrackerTables.{TrackerTables, Fitted, cleared_tracker}
use Rattle.tracker.specs.Build.{BuildTables, EnoughToBuild}
use Rattle.passes.specs.declared.Verdict.{Verdict}
use Rattle.passes.specs.Passes.{Judges, Sound}

-- "Is the sheet at most 32,768 bytes" (R-9), "the plan at most 12,288?": one question, asked of both before question 3
pub record SizesFit (s p : List ℕ) : Type 0 where
  pub sheet : length s ≤ most_sheet
  pub plan : length p ≤ most_plan

-- a judged plan of lead-in and cycle on an accepted sheet σ, whose tracker has `count` tuples
pub record Verdicts (σ : Sheet) (p lead cycle : List ℕ) (count : ℕ) (z : Verdict) : Type 0 where
  pub plan : PlanIs σ p lead cycle
  pub judged : Judges (numbers σ) (letter_at lead cycle) (length lead) (length cycle) z
  pub passes : z.passes ≤ count
  pub sound : Sound (numbers σ) (letter_at lead cycle) z.answer

-- what is refused behind question 1, and what the witness is then
pub data Refusing (s p : List ℕ) (room : ℕ) (before after : BuildTables) (r : Refusal) : Type 0 where
  -- 2
  by_size : (SizesFit s p → ⊥) → r ≡ refusal 2 0 → after.witness ≡ cleared_witness before.witness → Refusing s p room before after r
  -- 3 to 10
  by-sheet : SizesFit s p → Refuses s before.witness after.witness r → Refusing s p room before after r
  -- 11
  by-room : SizesFit s p → (σ : Sheet) → Accepted s σ → MoreThan (numbers σ) room → r ≡ refusal 11 0
      → after.witness ≡ cleared_witness before.witness → Refusing s p room before after r
  -- 12 to 14, with a tracker built
  by-plan : SizesFit s p → (σ : Sheet) → Accepted s σ → (built : TrackerTables) (count : ℕ) → Fitted (numbers σ) room before.tracker built count
      → (number line : ℕ) → PlanFaulty σ p number line → r ≡ refusal number line → after.witness ≡ cleared_witness before.witness
      → Refusing s p room before after r

-- THE VERDICT. s and p are the two files.
pub data Judgement (s p : List ℕ) (room : ℕ) (before after : BuildTables) (o : Result Verdict Refusal) : Type 0 where
  -- 1, asked first: nothing is touched
  short : (EnoughToBuild room before → ⊥) → o ≡ Err (refusal 1 0) → after ≡ before → Judgement s p room before after o
  -- 2 to 14
  refused : EnoughToBuild room before → (r : Refusal) → Refusing s p room before after r → o ≡ Err r
      → after.sets ≡ cleared_sets before.sets → after.tracker ≡ cleared_tracker before.tracker → Judgement s p room before after o
  -- yes or no, with the sheet's successor sets, its marks and its tracker in the tables
  judged : EnoughToBuild room before → SizesFit s p → (σ : Sheet) → Accepted s σ
      → (count : ℕ) → Fitted (numbers σ) room before.tracker after.tracker count
      → (lead cycle : List ℕ) (z : Verdict) → Verdicts σ p lead cycle count z → o ≡ Ok z
      → after.sets ≡ lent_sets (numbers σ) before.sets → after.witness ≡ cleared_witness before.witness
      → Judgement s p room before after o
