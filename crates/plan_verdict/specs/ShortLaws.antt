-- Question 1 comes before all others. Assumes nothing.
use Rattle.std.specs.Prelude.{ℕ, refl, List, Err}
use Rattle.gate.specs.Gate.{refusal}
use Rattle.tracker.specs.Build.{BuildTables, EnoughToBuild}
use Rattle.plan_verdict.specs.Verdict.{Judgement}

-- answered no it decides, whatever the files
pub short-judged : {s p : List ℕ} {room : ℕ} {before : BuildTables} → (EnoughToBuild room before → ⊥) → Judgement s p room before before (Err (refusal 1 0))
short-judged short = Judgement.short short refl refl
