-- What the parts of the verdict answer.
use Rattle.std.specs.Prelude.{ℕ, ◌≡◌, List, length, Err, Ok, Result}
use Rattle.passes.specs.declared.Verdict.{Verdict}
use Rattle.gate.specs.declared.Refusal.{Refusal}
use Rattle.gate.specs.Gate.{RefusedBy}
use Rattle.automaton.specs.Automaton.{TransitionSets}
use Rattle.lent.specs.Lent.{cleared_sets}
use Rattle.filling.specs.TrackerTables.{TrackerTables, cleared_tracker}
use Rattle.format.specs.Format.{Sheet}
use Rattle.passes.specs.Letter.{letter_at}
use Rattle.plan.specs.Plan.{PlanIs, PlanFaulty}
use Rattle.passes.specs.TableRun.{TableJudges}

-- questions 12 to 14 on a plan file p over the sheet σ, and its verdict by numbers
abbrev pub PlanJudged : Sheet → List ℕ → List ℕ → List ℕ → ℕ → Result Verdict Refusal → Type 0
PlanJudged σ p tuples nexts count (Err r) = RefusedBy (PlanFaulty σ p) r
PlanJudged σ p tuples nexts count (Ok z) =
    (lead : List ℕ) × (cycle : List ℕ) × PlanIs σ p lead cycle
    × TableJudges tuples nexts count (letter_at lead cycle) (length lead) (length cycle) z

-- what a plan's outcome leaves of the successor sets, of the marks and of the tracker's tables: all zero with a refusal, else as they were
abbrev pub PlanLeft : TransitionSets → TransitionSets → TrackerTables → TrackerTables → Result Verdict Refusal → Type 0
PlanLeft sets sets' tracker tracker' (Err r) = (sets' ≡ cleared_sets sets) × (tracker' ≡ cleared_tracker tracker)
PlanLeft sets sets' tracker tracker' (Ok z) = (sets' ≡ sets) × (tracker' ≡ tracker)
