-- A file read from the top is a plan file of Plan or has its fault: the phases, one after the other. Assumes nothing.
use Rattle.std.specs.Prelude.{ℕ, ◌+◌, ◌≤◌, ◌≡◌, refl, List, [], ◌++◌, map, take, drop}
use Rattle.std.proofs.Common.{sym, ap, ◌∙◌, length-take, length-drop, take-append-drop, arith}
use Rattle.std.proofs.Math.Path.{subst}
use Rattle.std.proofs.Math.ListN.{length}
use Rattle.names.specs.Name.{compose}
use Rattle.format.specs.Format.{Sheet, WithdrawalsRight, end_line}
use Rattle.format.specs.Withdrawals.{superseding_of}
use Rattle.frame.specs.Phase.{Phase, refused, passed, and_then}
use Rattle.frame.specs.EndLaws.{end-outcome}
use Rattle.plan.specs.declared.PlanLengths.{PlanLengths}
use Rattle.plan.specs.Plan.{plan_head, LengthsRight, PlanIs, PlanAbove, PlanFaulty}
use Rattle.plan_lines.specs.PlanLines.{plan_lines, most_plan, Known}
use Rattle.plan_lines.specs.LetterLines.{Lettered, letters_at}
use Rattle.plan.specs.Parse.{end_of, PlanContents, plan_contents, plan_head_of, after_plan_head, plan_of}
use Rattle.plan.specs.HeadLaws.{PlanHeadOutcome, plan-head-outcome}
use Rattle.plan_lines.specs.KnownLaws.{known-length}
use Rattle.plan_lines.specs.LineLaws.{LettersOutcome, LettersRefused, LettersPassed, letters-outcome}

-- WHAT READING GIVES: the lead-in's letters, then the cycle's
abbrev pub lead_of : PlanContents → List ℕ
lead_of x = take x.lead x.letters

abbrev pub cycle_of : PlanContents → List ℕ
cycle_of x = drop x.lead x.letters

abbrev pub PlanMeans : Sheet → List ℕ → Phase PlanContents → Type 0
PlanMeans σ p (refused number line) = PlanFaulty σ p number line
PlanMeans σ p (passed x) = (length x.letters ≡ x.lead + x.cycle) × PlanIs σ p (lead_of x) (cycle_of x)

module _ (σ : Sheet) (p : List ℕ) (size : length p ≤ most_plan) (z : PlanLengths) (range : LengthsRight z.lead z.cycle)
    (head : p ≡ plan_head z.lead z.cycle ++ drop 11 p) where
  abbrev todo : ℕ
  todo = z.lead + z.cycle

  letters-refuse : (number line : ℕ) → LettersRefused σ p 2 11 todo number line → PlanFaulty σ p number line
  letters-refuse number line h =
      subst (PlanFaulty σ p number) (sym h.here) (PlanFaulty.name z.lead z.cycle h.names h.rest above h.count h.fault)
    where
      above : PlanAbove σ p z.lead z.cycle h.names h.rest
      above = record { range = range; letters = h.letters; known = h.known; text = head ∙ rw h.text refl }

  module _ (y : Lettered) (h : LettersPassed σ p 2 11 [] todo y) where
    above-end : PlanAbove σ p z.lead z.cycle h.names (drop y.at p)
    above-end = record { range = range; letters = h.letters; known = h.known; text = head ∙ rw h.text refl }

    is-plan : drop y.at p ≡ end_line → PlanMeans σ p (passed (plan_contents z y.letters))
    is-plan e =
        let n : length y.letters ≡ z.lead + z.cycle = ap length h.are ∙ (known-length σ h.known ∙ h.count) in
        let a : length (take z.lead y.letters) ≡ z.lead = simp length-take (omega arith) in
        let b : length (drop z.lead y.letters) ≡ z.cycle = simp length-drop (omega arith) in (
          n,
          record {
            size = size;
            range = rw (a, b) range;
            names = h.names;
            known = subst (Known σ h.names) (sym (take-append-drop z.lead y.letters ∙ h.are)) h.known;
            text = rw (a, b) (head ∙ ap (λ (r : List ℕ). plan_head z.lead z.cycle ++ r) (h.text ∙ ap (λ (r : List ℕ). plan_lines h.names ++ r) e));
          },
        )

    end-means : PlanMeans σ p (and_then (end_of p y) (λ letters. passed (plan_contents z letters)))
    unfolding end_of
    end-means =
        end-outcome p y.at 12 y.line y.letters (λ w. PlanMeans σ p (and_then w (λ letters. passed (plan_contents z letters))))
        (λ none. subst (PlanFaulty σ p 12) (sym h.next) (PlanFaulty.end z.lead z.cycle h.names (drop y.at p) above-end h.count none))
        (λ after e some.
        (let l : 3 + length h.names ≡ y.line + 1 = omega (arith, h.next) in
        subst (PlanFaulty σ p 12) l
        (PlanFaulty.behind z.lead z.cycle h.names after (subst (PlanAbove σ p z.lead z.cycle h.names) e above-end) h.count some)))
        is-plan

  letters-mean : (w : Phase Lettered) → LettersOutcome σ p 2 11 [] todo w → PlanMeans σ p (and_then w (λ y. and_then (end_of p y) (λ letters. passed (plan_contents z letters))))
  letters-mean (refused number line) h = letters-refuse number line h
  letters-mean (passed y) h = end-means y h

module _ (σ : Sheet) (all : length σ.names ≡ σ.k) (few : σ.k ≤ 8) (withdrawals : WithdrawalsRight σ.k 0 σ.withdrawals) (p : List ℕ)
    (size : length p ≤ most_plan) where
  head-means : (w : Phase PlanLengths) → PlanHeadOutcome σ p w
      → PlanMeans σ p (and_then w (after_plan_head (map compose σ.names) (superseding_of σ.withdrawals) p))
  head-means (refused number line) h = h
  head-means (passed z) h =
      letters-mean σ p size z h.0 h.1 (letters_at (map compose σ.names) (superseding_of σ.withdrawals) p 2 11 [] (z.lead + z.cycle))
      (letters-outcome σ all few withdrawals p (z.lead + z.cycle) 2 11 [])

  -- EVERY FILE is a plan file, whose letters are read, or has a fault, which is the refusal
  pub plan-means : PlanMeans σ p (plan_of (map compose σ.names) (superseding_of σ.withdrawals) p)
  unfolding plan_of
  plan-means = head-means (plan_head_of p) (plan-head-outcome p σ)
