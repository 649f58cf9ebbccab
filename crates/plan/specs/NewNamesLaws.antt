-- R-1, "Old grade names stay in plans for months": a plan with old names is read as the same plan in new names. Assumes nothing.
use Rattle.std.specs.Prelude.{ℕ, ◌*◌, ◌≤◌, refl, List, ◌∷◌, ◌++◌, length}
use native.Mathlib.Omega.{arith}
use Rattle.std.proofs.Math.ListN.{length-append}
use Rattle.text.specs.Bytes.{lf}
use Rattle.format.specs.Format.{Sheet, FileIs, end_line}
use Rattle.format.proofs.StandsForLaws.{stands-new}
use Rattle.plan_lines.specs.PlanLines.{plan_lines, Known, none, more}
use Rattle.plan_lines.specs.KnownLaws.{known-length}
use Rattle.plan.specs.Plan.{plan_head, PlanIs}
use Rattle.plan.specs.CompleteLaws.{plan-head-length}
use Rattle.plan.specs.NewNames.{names_of, plan_text}

-- known names take at most 25 bytes each, with their LF
known-most : (σ : Sheet) {names : List (List ℕ)} {letters : List ℕ} → Known σ names letters → length (plan_lines names) ≤ 25 * length names
unfolding plan_lines
known-most σ none = omega arith
known-most σ (more {x} {l} {xs} s k) = omega (arith, length-append x (lf ∷ plan_lines xs), s.is_name.most, known-most σ k)

module _ (s : List ℕ) (σ : Sheet) (file : FileIs s σ) where
  known-new : {names : List (List ℕ)} {letters : List ℕ} → Known σ names letters → Known σ (names_of σ letters) letters
  known-new none = none
  known-new (more {x} {l} z k) = more (stands-new σ file.all-names file.right.names file.right.withdrawals x l z) (known-new k)

  -- THE PLAN IN NEW NAMES is a plan file of the same letters
  pub plan_new : (p lead cycle : List ℕ) → PlanIs σ p lead cycle → PlanIs σ (plan_text σ lead cycle) lead cycle
  unfolding plan_text
  plan_new p lead cycle h =
      let names = names_of σ (lead ++ cycle) in
      let known = known-new h.known in
      record {
        size = omega (
          arith,
          length-append (plan_head (length lead) (length cycle)) (plan_lines names ++ end_line),
          length-append (plan_lines names) end_line,
          plan-head-length (length lead) (length cycle),
          known-most σ known,
          known-length σ known,
          length-append lead cycle,
          h.range.lead-most,
          h.range.cycle-most,
        );
        range = h.range;
        names = names;
        known = known;
        text = refl;
      }
