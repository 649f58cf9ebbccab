-- The answer of reading is the one that the definitions of a plan and of its faults give. Assumes nothing.
use Rattle.std.specs.Prelude.{ℕ, ◌+◌, ◌≤◌, ◌≡◌, List, ◌++◌, map, length, drop, Err, Ok, Result}
use Rattle.plan.specs.declared.PlanLengths.{PlanLengths}
use Rattle.gate.specs.declared.Refusal.{Refusal}
use Rattle.std.proofs.Common.{sym, ap, ◌∙◌, append_assoc, length-take, length-drop, take-append-drop, arith}
use Rattle.names.specs.Name.{compose}
use Rattle.format.specs.Format.{Sheet}
use Rattle.format.specs.Withdrawals.{superseding_of}
use Rattle.frame.specs.Phase.{Phase, refused, passed}
use Rattle.parser.specs.LettersOf.{LettersIn}
use Rattle.plan_lines.specs.PlanLines.{most_plan}
use Rattle.plan.specs.Parse.{PlanContents, lengths, plan_of}
use Rattle.plan.specs.Answers.{PlanRead}
use Rattle.plan.specs.Read.{ReadsPlan}
use Rattle.plan.specs.ParseLaws.{lead_of, cycle_of, PlanMeans, plan-means}

means-read : (σ : Sheet) (p t u : List ℕ) (w : Phase PlanContents) → PlanMeans σ p w → (r : Result PlanLengths Refusal) → PlanRead w t u r → ReadsPlan σ p t u r
means-read σ p t u (refused number line) f (Err r) (e, clear) = ((number, line, f, cc), clear)
means-read σ p t u (refused number line) f (Ok z) (e, clear) = absurd (let o : ◌≡◌ {A = ℕ} 0 1 = cc in omega arith)
means-read σ p t u (passed x) f (Err r) e = absurd (let g = e.0 in let o : ◌≡◌ {A = ℕ} 0 1 = cc in omega arith)
means-read σ p t u (passed x) (n, plan) (Ok z) (e, b) =
    let f : z ≡ lengths x.lead x.cycle = cc in
    let m : z.lead ≡ x.lead = ap (λ y. y.lead) f in
    let c : z.cycle ≡ x.cycle = ap (λ y. y.cycle) f in
    let k : z.lead + z.cycle ≡ x.lead + x.cycle = omega arith in
    let l : length (lead_of x) ≡ x.lead = simp length-take (omega arith) in
    let d : length (cycle_of x) ≡ x.cycle = simp length-drop (omega arith) in (
      lead_of x,
      cycle_of x,
      plan,
      m ∙ sym l,
      c ∙ sym d,
      b ∙ (ap (λ (y : List ℕ). y ++ drop (x.lead + x.cycle) t) (sym (take-append-drop x.lead x.letters))
          ∙ (append_assoc (lead_of x) (cycle_of x) (drop (x.lead + x.cycle) t) ∙ ap (λ (y : ℕ). lead_of x ++ (cycle_of x ++ drop y t)) (sym k))),
    )

-- over a sheet whose letters stand in rows
pub reads : {σ : Sheet} {k : ℕ} {rows : List ℕ} → LettersIn σ k rows → k ≤ 8 → (p t u : List ℕ) → length p ≤ most_plan → (r : Result PlanLengths Refusal)
    → PlanRead (plan_of (map compose σ.names) (superseding_of σ.withdrawals) p) t u r → ReadsPlan σ p t u r
reads {σ} h few p t u size r e =
    let k = h.letters in
    means-read σ p t u (plan_of (map compose σ.names) (superseding_of σ.withdrawals) p)
    (plan-means σ (h.all-names ∙ sym h.letters) (omega arith) h.withdrawals p size) r e
