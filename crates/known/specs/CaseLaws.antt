-- A case that is computed right is forced: a verdict is the one expected, and so is a tracker. Assumes nothing.
use Rattle.std.specs.Prelude.{ℕ, ◌≤◌, ◌≡◌, not, List, ◌++◌, map, eqb, ltb, length, take, drop, Err, Ok, Result}
use Rattle.tracker.specs.declared.Tracker.{Tracker}
use Rattle.gate.specs.declared.Refusal.{Refusal}
use Rattle.std.proofs.Common.{sym, ◌∙◌, arith, ltb-false, eqb-true}
use Rattle.std.proofs.Math.Path.{ap, subst}
use Rattle.std.proofs.Math.Bool.{true, and-eq-true_iff, false≢true}
use Rattle.std.proofs.lemmas.Bool.{not-true}
use Rattle.std.proofs.lemmas.List.{length-map}
use Rattle.std.proofs.Math.Seq.{take-append_seam, drop-append_seam}
use Rattle.gate.specs.Gate.{refusal}
use Rattle.automaton.specs.Automaton.{Automaton}
use Rattle.format.specs.Format.{Sheet, FileIs, most_sheet}
use Rattle.format.specs.Numbers.{numbers}
use Rattle.parser.specs.Parse.{Contents}
use Rattle.frame.specs.Phase.{Phase, refused, passed}
use Rattle.lists.specs.SearchLaws.{same-is}
use Rattle.parser.proofs.ParseLaws.{AreContents}
use Rattle.tuple.specs.Step.{Tuple}
use Rattle.filling.specs.TrackerTables.{TrackerTables, Holds}
use Rattle.passes.specs.Letter.{letter_at}
use Rattle.plan_lines.specs.PlanLines.{most_plan}
use Rattle.plan_lines.specs.PlanLines as PlanLines
use Rattle.plan.specs.Plan as Plan
use Rattle.plan.specs.Parse.{plan_of}
use Rattle.plan.specs.Parse as P
use Rattle.plan.specs.ParseLaws.{plan-means}
use Rattle.plan.specs.ParseLaws as L
use Rattle.plan.specs.CompleteLaws.{fault-read, plan-read}
use Rattle.passes.specs.declared.Verdict.{Verdict}
use Rattle.passes.specs.Passes.{Judges}
use Rattle.plan_verdict.specs.Verdict.{SizesFit}
use Rattle.passes.proofs.UniqueLaws.{one-verdict}
use Rattle.known.specs.Case.{Expected, judged, meeting, Case, Tracked, VerdictIs, OfPlan, BuiltIs, Forced}
use Rattle.known.specs.Case as E
use Rattle.known.specs.VerdictTest.{is_verdict}
use Rattle.known.specs.VerdictTestLaws.{verdict-is}
use Rattle.known.specs.CaseTest.{is_refused, right_plan, right_colours, right}
use Rattle.known.specs.CauseLaws.{PlanCause, IsBuilt, verdict-cause, build-cause}
use Rattle.known.specs.SheetLaws.{sheet-asked}

refused-is : (number line : ℕ) (e : Expected) → is_refused number line e ≡ true → E.refused number line ≡ e
unfolding is_refused
refused-is number line (E.refused n l) t =
    let (a, b) = (and-eq-true_iff (eqb number n) (eqb line l)).0 t in
    let p = eqb-true number n a in
    let q = eqb-true line l b in
    λ i. E.refused (p i) (q i)
refused-is number line (judged z colours) t = absurd (false≢true t)
refused-is number line (meeting word one other) t = absurd (false≢true t)

colours-are : (ts : List Tuple) (z : Verdict) (colours : List ℕ) → right_colours ts (judged z colours) ≡ true → map (λ u. u.colour) ts ≡ colours
unfolding right_colours
colours-are ts z colours c = same-is (map (λ u. u.colour) ts) colours c

tracked : (s : List ℕ) (before after : TrackerTables) (σ : Sheet) → FileIs s σ → (ts : List Tuple) → Holds (numbers σ) ts before after → (z : Verdict) (colours : List ℕ)
    → right_colours ts (judged z colours) ≡ true → Tracked s before after colours
tracked s before after σ file ts h z colours c = record { sheet = σ; file = file; tuples = ts; holds = h; coloured = colours-are ts z colours c }

-- no tracker is expected with a witness
no-witness : (ts : List Tuple) (word one other : List ℕ) → right_colours ts (meeting word one other) ≡ true → ⊥
unfolding right_colours
no-witness ts word one other c = false≢true c

-- THE PLAN, on a sheet file read as x
module _ (s p : List ℕ) (before after : TrackerTables) (σ : Sheet) (file : FileIs s σ) (x : Contents) (are : AreContents σ x) (ts : List Tuple) where
  abbrev A : Automaton
  A = x.numbers

  -- QUESTIONS 12 TO 14 answered no
  fault-asked : (o : Result Verdict Refusal) (number line : ℕ) → Plan.PlanFaulty σ p number line → o ≡ Err (refusal number line)
      → (e : Expected) → right_plan A (plan_of x.names x.superseding p) e ≡ true → VerdictIs s before after o e
  unfolding right_plan
  fault-asked o number line h is e t =
      let q : plan_of x.names x.superseding p ≡ refused number line = rw (are.names, are.superseding) (fault-read σ file.all-names file.right.range.3 file.right.withdrawals file.right.names p number line h) in
      subst (VerdictIs s before after o) (refused-is number line e (rw q at t)) is

  -- and yes
  module _ (lead cycle : List ℕ) (plan : Plan.PlanIs σ p lead cycle) (z : Verdict) (j : Judges (numbers σ) (letter_at lead cycle) (length lead) (length cycle) z) where
    plan-passed : plan_of x.names x.superseding p ≡ passed (P.plan_contents (P.lengths (length lead) (length cycle)) (lead ++ cycle))
    plan-passed = rw (are.names, are.superseding) (plan-read σ file.all-names file.right.range.3 file.right.withdrawals file.right.names p lead cycle plan)

    same-verdict : (y : Verdict) → is_verdict A (letter_at (take (length lead) (lead ++ cycle)) (drop (length lead) (lead ++ cycle))) (length lead) (length cycle) y ≡ true
        → z ≡ y
    same-verdict y t =
        one-verdict A (letter_at lead cycle) (length lead) (length cycle) z y
        (subst (λ (B : Automaton). Judges B (letter_at lead cycle) (length lead) (length cycle) z) (sym are.numbers) j)
        (verdict-is A (letter_at lead cycle) (length lead) (length cycle) y (rw (take-append_seam lead cycle, drop-append_seam lead cycle) at t))

    verdict-asked : (o : Result Verdict Refusal) → Holds (numbers σ) ts before after → o ≡ Ok z
        → (e : Expected) → right_colours ts e ≡ true → right_plan A (plan_of x.names x.superseding p) e ≡ true → VerdictIs s before after o e
    unfolding right_plan
    verdict-asked o h is (judged y colours) c t = (is ∙ ap Ok (same-verdict y (rw plan-passed at t)), tracked s before after σ file ts h y colours c)
    verdict-asked o h is (E.refused number line) c t = absurd (false≢true (rw plan-passed at t))
    verdict-asked o h is (meeting word one other) c t = absurd (no-witness ts word one other c)

  plan-asked : (o : Result Verdict Refusal) → PlanCause p before after o σ ts → (e : Expected) → right_colours ts e ≡ true → right_plan A (plan_of x.names x.superseding p) e ≡ true → VerdictIs s before after o e
  plan-asked o (PlanCause.plan-fault number line h is) e c t = fault-asked o number line h is e t
  plan-asked o (PlanCause.verdict h lead cycle plan z j is) e c t = verdict-asked lead cycle plan z j o h is e c t

  -- BUILDING asks none of them
  plan-number : (number line : ℕ) → Plan.PlanFaulty σ p number line → OfPlan number
  plan-number number line (Plan.PlanFaulty.head h) = (omega arith, omega arith)
  plan-number number line (Plan.PlanFaulty.range lead cycle rest a b e h) = (omega arith, omega arith)
  plan-number number line (Plan.PlanFaulty.name lead cycle names rest a b (PlanLines.wrong_name h)) = (omega arith, omega arith)
  plan-number number line (Plan.PlanFaulty.name lead cycle names rest a b (PlanLines.unknown-name y after c e h)) = (omega arith, omega arith)
  plan-number number line (Plan.PlanFaulty.end lead cycle names rest a b h) = (omega arith, omega arith)
  plan-number number line (Plan.PlanFaulty.behind lead cycle names after a b h) = (omega arith, omega arith)

  not-by-plan : length p ≤ most_plan → (number line : ℕ) → right_plan A (plan_of x.names x.superseding p) (E.refused number line) ≡ true → (OfPlan number → ⊥) → ⊥
  unfolding right_plan is_refused
  not-by-plan size number line t other =
      by (plan_of x.names x.superseding p) (rw (are.names, are.superseding) (plan-means σ file.all-names file.right.range.3 file.right.withdrawals p size)) t
    where
      by : (q : Phase P.PlanContents) → L.PlanMeans σ p q → right_plan A q (E.refused number line) ≡ true → ⊥
      by (refused n l) h t =
          let (a, b) = (and-eq-true_iff (eqb n number) (eqb l line)).0 t in
          other (subst OfPlan (eqb-true n number a) (plan-number n l h))
      by (passed y) h t = false≢true t

  tracker-asked : length p ≤ most_plan → (o : Result Tracker Refusal) → IsBuilt before after o σ ts → (e : Expected) → right_colours ts e ≡ true → right_plan A (plan_of x.names x.superseding p) e ≡ true
      → BuiltIs s before after o e
  tracker-asked size o h (judged z colours) c t =
      let k = h.counted ∙ (sym (length-map ts (λ u. u.colour)) ∙ ap length (colours-are ts z colours c)) in
      ((h.tracker, h.is, k), tracked s before after σ file ts h.holds z colours c)
  tracker-asked size o h (E.refused number line) c t = λ other. absurd (not-by-plan size number line t other)
  tracker-asked size o h (meeting word one other) c t = absurd (no-witness ts word one other c)

-- THE LAW
pub right-forced : (c : Case) → right c ≡ true → Forced c
unfolding right
right-forced c e =
    let (a, i) = (and-eq-true_iff (not (ltb most_sheet (length c.sheet))) _).0 e in
    let (b, j) = (and-eq-true_iff (not (ltb most_plan (length c.plan))) _).0 i in
    let size : SizesFit c.sheet c.plan = record {
      sheet = ltb-false most_sheet (length c.sheet) (not-true (ltb most_sheet (length c.sheet)) a);
      plan = ltb-false most_plan (length c.plan) (not-true (ltb most_plan (length c.plan)) b);
    } in
    record {
      verdict = λ before after o lent h.
          (let old = before.tracker in
          let new = after.tracker in
          sheet-asked c.sheet c.plan c.room (Result Verdict Refusal) Err (PlanCause c.plan old new o) o (VerdictIs c.sheet old new o)
          (λ number line e t is. subst (VerdictIs c.sheet old new o) (refused-is number line e t) is)
          (λ word one other is k. (is, k))
          (λ σ file x are ts. plan-asked c.sheet c.plan old new σ file x are ts o)
          c.expected j (verdict-cause c.sheet c.room before after lent c.plan size o h));
      building = λ before after o lent h.
          (let old = before.tracker in
          let new = after.tracker in
          sheet-asked c.sheet c.plan c.room (Result Tracker Refusal) Err (IsBuilt old new o) o (BuiltIs c.sheet old new o)
          (λ number line e t is. subst (BuiltIs c.sheet old new o) (refused-is number line e t) (λ other. is))
          (λ word one other is k. (is, k))
          (λ σ file x are ts. tracker-asked c.sheet c.plan old new σ file x are ts size.plan o)
          c.expected j (build-cause c.sheet c.room before after lent o h));
    }
