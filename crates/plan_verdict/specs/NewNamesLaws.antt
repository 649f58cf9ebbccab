-- R-1, on the verdict's own contract: what a plan with old names gets, the same plan in new names may get, table by table. Assumes nothing.
use Rattle.std.specs.Prelude.{ℕ, ◌≡◌, List, Ok}
use Rattle.std.proofs.Common.{arith}
use Rattle.format.specs.Format.{Sheet}
use Rattle.reading.specs.Read.{Accepted}
use Rattle.plan.specs.NewNames.{plan_text}
use Rattle.plan.specs.NewNamesLaws.{plan_new}
use Rattle.passes.specs.declared.Verdict.{Verdict}
use Rattle.tracker.specs.Build.{BuildTables}
use Rattle.plan_verdict.specs.Verdict.{SizesFit, Verdicts, Judgement}

-- a plan on a sheet, in the names of its letters
pub record InNewNames (s p : List ℕ) (room : ℕ) (before after : BuildTables) (z : Verdict) : Type 0 where
  pub sheet : Sheet
  pub accepted : Accepted s sheet
  pub lead : List ℕ
  pub cycle : List ℕ
  pub count : ℕ
  pub old : Verdicts sheet p lead cycle count z
  pub new : Judgement s (plan_text sheet lead cycle) room before after (Ok z)

module _ (s p : List ℕ) (room : ℕ) (before after : BuildTables) where
  pub judged-new : (z : Verdict) → Judgement s p room before after (Ok z) → InNewNames s p room before after z
  judged-new z (Judgement.short a e b) = absurd (let o : ◌≡◌ {A = ℕ} 0 1 = cc in omega arith)
  judged-new z (Judgement.refused a r b e c d) = absurd (let o : ◌≡◌ {A = ℕ} 0 1 = cc in omega arith)
  judged-new z (Judgement.judged lent sizes σ accepted count fitted lead cycle y h e sets witness) =
      let same : z ≡ y = cc in
      let plan = plan_new s σ accepted.file p lead cycle h.plan in
      let fit : SizesFit s (plan_text σ lead cycle) = record { sheet = sizes.sheet; plan = plan.size } in
      let verdicts : Verdicts σ (plan_text σ lead cycle) lead cycle count y = record { plan = plan; judged = h.judged; passes = h.passes; sound = h.sound } in
      record {
        sheet = σ;
        accepted = accepted;
        lead = lead;
        cycle = cycle;
        count = count;
        old = rw same h;
        new = Judgement.judged lent fit σ accepted count fitted lead cycle y verdicts e sets witness;
      }
