-- The other way round: the lines of a plan's upper part are read through, and behind them its fault is met, or its end. So the answer of
-- reading is a plan's letters exactly if the file is that plan, and a refusal exactly if the file has that fault. Assumes nothing.
use Rattle.std.specs.Prelude.{ℕ, suc, ◌+◌, ◌-◌, ◌≤◌, ◌<◌, ◌≡◌, List, [], ◌∷◌, ◌++◌, map, take, drop}
use Rattle.std.proofs.Math.Path.{refl}
use Rattle.std.proofs.Common.{sym, ap, subst, ◌∙◌, length-append}
use Rattle.std.proofs.Math.ListN.{length}
use Rattle.std.proofs.Math.Seq.{take-append_seam, drop-append_seam}
use native.Mathlib.Omega.{arith}
use Rattle.text.specs.BytesLaws.{stretch-rest}
use Rattle.columns.specs.LineLaws.{numbers_line-length}
use Rattle.names.specs.Name.{compose}
use Rattle.format.specs.Format.{Sheet, NamesRight, WithdrawalsRight, end_line}
use Rattle.format.specs.Withdrawals.{superseding_of}
use Rattle.frame.specs.Phase.{refused, passed, and_then}
use Rattle.frame.specs.EndLaws.{end-missing, end-behind, end_read}
use Rattle.plan.specs.Plan.{plan_word, plan_head, PlanIs, PlanAbove, PlanFaulty}
use Rattle.plan_lines.specs.PlanLines.{plan_lines, PlanNameFault}
use Rattle.plan.specs.Parse.{lengths, end_of, plan_contents, after_plan_head, plan_of}
use Rattle.plan_lines.specs.LetterLines.{lettered, letters_at}
use Rattle.plan.specs.HeadLaws.{plan-head-right, plan-head-range, plan-head-form}
use Rattle.plan_lines.specs.LineLaws.{letters-fault, letters-along}
use Rattle.plan_lines.specs.KnownLaws.{known-length}

pub plan-head-length : (lead cycle : ℕ) → length (plan_head lead cycle) ≡ 11
unfolding plan_head
plan-head-length lead cycle = numbers_line-length plan_word (lead ∷ cycle ∷ [])

module _ (σ : Sheet) (all : length σ.names ≡ σ.k) (few : σ.k ≤ 8) (withdrawals : WithdrawalsRight σ.k 0 σ.withdrawals)
    (right : NamesRight [] σ.names) where
  abbrev composed : List (List ℕ)
  composed = map compose σ.names

  abbrev cells : List ℕ
  cells = superseding_of σ.withdrawals

  -- behind the first line and some known names
  module _ (p : List ℕ) (lead cycle : ℕ) (names : List (List ℕ)) (rest : List ℕ) (above : PlanAbove σ p lead cycle names rest) where
    after-head : drop 11 p ≡ plan_lines names ++ rest
    after-head = rw plan-head-length at (stretch-rest p 0 (plan_head lead cycle) (plan_lines names ++ rest) above.text)

    plan-head : plan_of composed cells p ≡ after_plan_head composed cells p (lengths lead cycle)
    unfolding plan_of
    plan-head = simp (plan-head-right p lead cycle (plan_lines names ++ rest) above.range above.text)

    -- a name is due
    name-fault : {number : ℕ} → length names < lead + cycle → PlanNameFault σ rest number → plan_of composed cells p ≡ refused number (2 + length names)
    name-fault {number} due f =
        let left = lead + cycle - (1 + length names) in
        let (behind, text, goes) = letters-along σ all few withdrawals right p rest (suc left) 2 11 [] above.known after-head in
        let e : length names + suc left ≡ lead + cycle = omega arith in
        let w : letters_at composed cells p 2 11 [] (lead + cycle) ≡ refused number (2 + length names) =
        ap (letters_at composed cells p 2 11 []) (sym e)
        ∙ (goes ∙ letters-fault σ all few withdrawals p (2 + length names) behind ([] ++ above.letters) left (subst (λ (r : List ℕ). PlanNameFault σ r number) (sym text) f)) in
        plan-head ∙ simp w

    none_left : (behind : ℕ) → letters_at composed cells p (2 + length names) behind above.letters 0 ≡ passed (lettered above.letters behind (2 + length names))
    unfolding letters_at
    none_left behind = refl

    -- END is due
    end-due : length names ≡ lead + cycle → (behind : ℕ) × (drop behind p ≡ rest)
        × (plan_of composed cells p ≡ and_then (end_of p (lettered above.letters behind (2 + length names))) (λ letters. passed (plan_contents (lengths lead cycle) letters)))
    end-due due =
        let (behind, text, goes) = letters-along σ all few withdrawals right p rest 0 2 11 [] above.known after-head in
        let e : length names + 0 ≡ lead + cycle = omega arith in
        let w : letters_at composed cells p 2 11 [] (lead + cycle) ≡ passed (lettered above.letters behind (2 + length names)) =
        ap (letters_at composed cells p 2 11 []) (sym e) ∙ (goes ∙ none_left behind) in
        (behind, text, plan-head ∙ simp w)

    no_end : length names ≡ lead + cycle → ((after : List ℕ) → rest ≡ end_line ++ after → ⊥) → plan_of composed cells p ≡ refused 12 (2 + length names)
    unfolding end_of
    no_end due f =
        let (behind, text, goes) = end-due due in
        goes ∙ simp (end-missing p behind 12 (2 + length names) above.letters (λ after e. f after (sym text ∙ e)))

    not_last : (after : List ℕ) → rest ≡ end_line ++ after → length names ≡ lead + cycle → (after ≡ [] → ⊥) → plan_of composed cells p ≡ refused 12 (3 + length names)
    unfolding end_of
    not_last after ends due some =
        let (behind, text, goes) = end-due due in
        let n : 2 + length names + 1 ≡ 3 + length names = omega arith in
        goes ∙ simp (end-behind p behind 12 (2 + length names) above.letters after (text ∙ ends) some, n)

    is_last : rest ≡ end_line → length names ≡ lead + cycle → plan_of composed cells p ≡ passed (plan_contents (lengths lead cycle) above.letters)
    unfolding end_of
    is_last ends due =
        let (behind, text, goes) = end-due due in
        goes ∙ simp (end_read p behind 12 (2 + length names) above.letters (text ∙ ends))

  -- A FAULT is the refusal
  pub fault-read : (p : List ℕ) (number line : ℕ) → PlanFaulty σ p number line → plan_of composed cells p ≡ refused number line
  unfolding plan_of
  fault-read p number line (PlanFaulty.head f) = simp (plan-head-form p f)
  fault-read p number line (PlanFaulty.range lead cycle rest h g e out) = simp (plan-head-range p lead cycle rest h g e out)
  fault-read p number line (PlanFaulty.name lead cycle names rest above due f) = name-fault p lead cycle names rest above due f
  fault-read p number line (PlanFaulty.end lead cycle names rest above due f) = no_end p lead cycle names rest above due f
  fault-read p number line (PlanFaulty.behind lead cycle names after above due some) =
      not_last p lead cycle names (end_line ++ after) above after refl due some

  -- A PLAN is read
  pub plan-read : (p lead cycle : List ℕ) → PlanIs σ p lead cycle → plan_of composed cells p ≡ passed (plan_contents (lengths (length lead) (length cycle)) (lead ++ cycle))
  plan-read p lead cycle h =
      is_last p (length lead) (length cycle) h.names end_line
      (record { range = h.range; letters = lead ++ cycle; known = h.known; text = h.text }) refl
      (sym (known-length σ h.known) ∙ length-append lead cycle)

  -- So a file has one fault, one plan, and not both
  pub plan-fault-unique : (p : List ℕ) (n l m k : ℕ) → PlanFaulty σ p n l → PlanFaulty σ p m k → (n ≡ m) × (l ≡ k)
  plan-fault-unique p n l m k f g = let e : refused n l ≡ refused m k = sym (fault-read p n l f) ∙ fault-read p m k g in (cc, cc)

  pub plan-or-fault : (p lead cycle : List ℕ) (n l : ℕ) → PlanIs σ p lead cycle → PlanFaulty σ p n l → ⊥
  plan-or-fault p lead cycle n l h f =
      let e : passed (plan_contents (lengths (length lead) (length cycle)) (lead ++ cycle)) ≡ refused n l = sym (plan-read p lead cycle h) ∙ fault-read p n l f in
      let z : ◌≡◌ {A = ℕ} 0 1 = cc in omega arith

  pub plan-unique : (p lead cycle lead' cycle' : List ℕ) → PlanIs σ p lead cycle → PlanIs σ p lead' cycle' → (lead ≡ lead') × (cycle ≡ cycle')
  plan-unique p lead cycle lead' cycle' h g = parted (read (sym (plan-read p lead cycle h) ∙ plan-read p lead' cycle' g))
    where
      read : passed (plan_contents (lengths (length lead) (length cycle)) (lead ++ cycle)) ≡ passed (plan_contents (lengths (length lead') (length cycle')) (lead' ++ cycle'))
          → (length lead ≡ length lead') × (lead ++ cycle ≡ lead' ++ cycle')
      read e =
          let f : plan_contents (lengths (length lead) (length cycle)) (lead ++ cycle) ≡ plan_contents (lengths (length lead') (length cycle')) (lead' ++ cycle') = cc in
          (ap (λ x. x.lead) f, ap (λ x. x.letters) f)

      parted : (length lead ≡ length lead') × (lead ++ cycle ≡ lead' ++ cycle') → (lead ≡ lead') × (cycle ≡ cycle')
      parted (l, e) = (
        sym (take-append_seam lead cycle) ∙ (ap (λ (n : ℕ). take n (lead ++ cycle)) l ∙ (ap (take (length lead')) e ∙ take-append_seam lead' cycle')),
        sym (drop-append_seam lead cycle) ∙ (ap (λ (n : ℕ). drop n (lead ++ cycle)) l ∙ (ap (drop (length lead')) e ∙ drop-append_seam lead' cycle')),
      )
