-- The letters of a plan that is read are the sheet's and fit to be judged, and its endless word is theirs. Assumes nothing.
use Rattle.std.specs.Prelude.{ℕ, ◌+◌, ◌-◌, ◌≤◌, ◌<◌, ◌≡◌, List, ◌++◌, length, get_or, take, drop, replicate}
use Rattle.std.proofs.Common.{sym, ap, subst, ◌∙◌, append_assoc, length-append, take_at, drop_at, get_or-append-add, get_or-drop, arith}
use Rattle.gate.specs.GateLaws.{zeros}
use Rattle.std.proofs.Math.ListN.{get_or-append}
use Rattle.std.proofs.Math.Decide.{dec_lt}
use Rattle.format.specs.Format.{Sheet, Right, WithdrawalsRight}
use Rattle.passes.specs.Letter.{letter_at}
use Rattle.passes.specs.LetterLaws.{letter-below}
use Rattle.plan.specs.Plan.{PlanIs}
use Rattle.plan_lines.specs.KnownLaws.{known-below}
use Rattle.passes.specs.declared.Verdict.{Verdict}
use Rattle.passes.specs.TableRun.{LettersFit, word_of, TableJudges}

-- THE LETTERS of a plan are the sheet's
pub letters-below : (σ : Sheet) → Right σ → (p lead cycle : List ℕ) → PlanIs σ p lead cycle → (t : ℕ) → letter_at lead cycle t < σ.k
letters-below σ right p lead cycle plan =
    letter-below lead cycle σ.k plan.range.cycle-some
    (λ i l. subst (λ (x : ℕ). x < σ.k) (get_or-append lead cycle 0 i l) (known-below σ right.withdrawals plan.known i (rw (length-append lead cycle) (omega arith))))
    (λ i l. subst (λ (x : ℕ). x < σ.k) (get_or-append-add lead cycle i 0) (known-below σ right.withdrawals plan.known (length lead + i) (rw (length-append lead cycle) (omega arith))))

-- a buffer that was all zero, with the letters of a plan in front
module _ (σ : Sheet) (k : σ.k ≤ 8) (right : WithdrawalsRight σ.k 0 σ.withdrawals) (p lead cycle : List ℕ) (plan : PlanIs σ p lead cycle) (n m c : ℕ) (u : List ℕ)
    (lead_is : m ≡ length lead) (cycle-is : c ≡ length cycle) (is : u ≡ lead ++ (cycle ++ drop (m + c) (replicate n 0))) where
  abbrev behind : List ℕ
  behind = drop (m + c) (replicate n 0)

  in-front : u ≡ (lead ++ cycle) ++ behind
  in-front = is ∙ sym (append_assoc lead cycle (behind))

  small : (i : ℕ) → get_or u i 0 < 8
  small i = by (dec_lt i (length (lead ++ cycle)))
    where
      by : Dec (i < length (lead ++ cycle)) → get_or u i 0 < 8
      by (yes l) =
          let e = ap (λ (y : List ℕ). get_or y i 0) in-front ∙ get_or-append (lead ++ cycle) (behind) 0 i l in
          omega (arith, known-below σ right plan.known i l)
      by (no l) =
          let j = i - length (lead ++ cycle) in
          let e : i ≡ length (lead ++ cycle) + j = omega arith in
          let f : get_or u i 0 ≡ 0 =
          ap (λ (y : List ℕ). get_or y i 0) in-front
          ∙ (ap (λ (y : ℕ). get_or ((lead ++ cycle) ++ behind) y 0) e
          ∙ (get_or-append-add (lead ++ cycle) (behind) j 0
          ∙ (get_or-drop (m + c) (replicate n 0) j 0 ∙ zeros n (m + c + j)))) in
          omega arith

  pub letters-fit : LettersFit u m c
  letters-fit =
      let r = plan.range in
      record {
        lead-most = omega (arith, r.lead-most);
        cycle-some = omega (arith, r.cycle-some);
        cycle-most = omega (arith, r.cycle-most);
        all = rw in-front (simp length-append (omega arith));
        below = small;
      }

  lead-there : take m u ≡ lead
  lead-there = ap (take m) is ∙ take_at lead (cycle ++ behind) m (sym lead_is)

  cycle-there : take c (drop m u) ≡ cycle
  cycle-there = ap (λ (y : List ℕ). take c (drop m y)) is ∙ (ap (take c) (drop_at lead (cycle ++ behind) m (sym lead_is)) ∙ take_at cycle behind c (sym cycle-is))

  word-is : word_of u m c ≡ letter_at lead cycle
  word-is = rw (lead-there, cycle-there)

  -- so the verdict by numbers on the buffer's letters is that on the plan's
  pub judged-plan : (tuples nexts : List ℕ) (count : ℕ) (z : Verdict) → TableJudges tuples nexts count (word_of u m c) m c z
      → TableJudges tuples nexts count (letter_at lead cycle) (length lead) (length cycle) z
  judged-plan tuples nexts count z h = rw (word-is, lead_is, cycle-is) at h
