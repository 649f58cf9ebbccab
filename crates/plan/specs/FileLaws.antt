-- What the answer of a phase says of the whole file. The buffer was t, and the name lines left u in it. Assumes nothing.
use Rattle.std.specs.Prelude.{ℕ, ◌+◌, ◌≡◌, drop, Err, Ok, Result}
use Rattle.std.proofs.Common.{◌∙◌, ap, arith}
use Rattle.std.proofs.Math.Path.{subst}
use mathlib.Core.List.{List, [], ◌++◌}
use Rattle.gate.specs.Gate.{refusal, cleared}
use Rattle.gate.specs.declared.Refusal.{Refusal}
use Rattle.frame.specs.declared.Position.{Position}
use Rattle.frame.specs.Phase.{Phase, refused, passed, and_then, end_at}
use Rattle.plan.specs.declared.PlanLengths.{PlanLengths}
use Rattle.plan_lines.specs.LetterLines.{Lettered, LettersRead}
use Rattle.plan.specs.Parse.{end_of, PlanContents, plan_contents}
use Rattle.plan.specs.Answers.{planned, PlanRead}
use Rattle.frame.specs.Answers.{end_answer}
use Rattle.frame.specs.EndLaws.{end_same}

-- what the last line leaves in the buffer: zeros, or what was there
abbrev pub EndLeaves : List ℕ → List ℕ → List ℕ → Result Unit Refusal → Type 0
EndLeaves t u v (Err r) = v ≡ cleared t
EndLeaves t u v (Ok tt) = v ≡ u

module _ (p t u : List ℕ) (z : PlanLengths) where
  abbrev after_letters : Phase Lettered → Phase PlanContents
  after_letters w = and_then w (λ y. and_then (end_of p y) (λ letters. passed (plan_contents z letters)))

  pub letters-refused : (w : Phase Lettered) (r : Refusal) → LettersRead w (z.lead + z.cycle) t u (Err r) → PlanRead (after_letters w) t u (Err r)
  letters-refused (refused number line) r (e, clear) = let f : r ≡ refusal number line = cc in (ap Err f, clear)
  letters-refused (passed y) r e = absurd (let g = e.0 in let o : ◌≡◌ {A = ℕ} 0 1 = cc in omega arith)

  module _ (v : List ℕ) where
    end_read : (y : Lettered) (r : Result Unit Refusal) → u ≡ y.letters ++ drop (z.lead + z.cycle) t → r ≡ end_answer (end_at 12 p y.line y.at []) → EndLeaves t u v r
        → PlanRead (and_then (end_of p y) (λ letters. passed (plan_contents z letters))) t v (planned z r)
    unfolding end_of
    end_read y r buffer e left =
        end_same 12 p y.line y.at [] y.letters
        (λ x w. r ≡ end_answer x → PlanRead (and_then w (λ letters. passed (plan_contents z letters))) t v (planned z r))
        (λ n l e. (ap (planned z) e, subst (EndLeaves t u v) e left))
        (λ e. (ap (planned z) e, subst (EndLeaves t u v) e left ∙ buffer)) e

    pub plan-ended : (w : Phase Lettered) (place : Position) (r : Result Unit Refusal) → LettersRead w (z.lead + z.cycle) t u (Ok place)
        → r ≡ end_answer (end_at 12 p place.line place.at []) → EndLeaves t u v r → PlanRead (after_letters w) t v (planned z r)
    plan-ended (refused number line) place r h e left = absurd (let g = h.0 in let o : ◌≡◌ {A = ℕ} 0 1 = cc in omega arith)
    plan-ended (passed y) place r h e left =
        let g = h.0 in
        let f : place ≡ record { at = y.at; line = y.line } = cc in
        end_read y r h.1 (e ∙ ap (λ (q : Position). end_answer (end_at 12 p q.line q.at [])) f) left
