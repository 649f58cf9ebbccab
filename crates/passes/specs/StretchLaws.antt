-- The stretch of a plan between two ends of passes, which the verdict goes by: the letters repeat from its first on with its length, and so do the tuples or the
-- numbers; its least colour is the least that is entered without end. Assumes nothing.
use Rattle.std.specs.Prelude.{ℕ, suc, ◌+◌, ◌*◌, ◌-◌, ◌≤◌, ◌<◌, ◌≡◌, List, length}
use Rattle.std.proofs.Common.{sym, ◌∙◌, ap, subst, arith, add-mul, mul-le-mul_right}
use Rattle.std.proofs.Math.Decide.{le_ind}
use Rattle.theory.specs.Run.{Least}
use Rattle.theory.proofs.Theorem.{least-repeating}
use Rattle.passes.specs.Letter.{letter_at}
use Rattle.passes.specs.LetterLaws.{letter-repeats}
use Rattle.passes.specs.Passes.{FirstRepeat, LeastOf}
use Rattle.passes.specs.LeastLaws.{least-once, least-lowest}

-- from the end of pass a to that of pass b
module _ (lead cycle : List ℕ) (some : 0 < length cycle) (a b : ℕ) (earlier : a < b) where
  -- where it begins
  abbrev pub stretch_start : ℕ
  stretch_start = length lead + a * length cycle

  -- it has one letter more than this
  abbrev pub stretch_rest : ℕ
  stretch_rest = (b - a) * length cycle - 1

  stretch-letters : suc stretch_rest ≡ (b - a) * length cycle
  stretch-letters =
      let x : 1 * length cycle ≤ (b - a) * length cycle = mul-le-mul_right (length cycle) (omega arith) in
      omega arith

  pub stretch-stop : stretch_start + suc stretch_rest ≡ length lead + b * length cycle
  stretch-stop =
      let e : a + (b - a) ≡ b = omega arith in
      let x : (a + (b - a)) * length cycle ≡ a * length cycle + (b - a) * length cycle = add-mul a (b - a) (length cycle) in
      let y : (a + (b - a)) * length cycle ≡ b * length cycle = ap (λ (n : ℕ). n * length cycle) e in
      omega (arith, stretch-letters)

  pub stretch-again : (t : ℕ) → stretch_start ≤ t → letter_at lead cycle (t + suc stretch_rest) ≡ letter_at lead cycle t
  stretch-again t l = ap (λ (x : ℕ). letter_at lead cycle (t + x)) stretch-letters ∙ letter-repeats lead cycle (b - a) t (omega arith)

-- What is followed goes from place to place, at t it is at place `at t`; place and letter fix the next place and the colour that is entered
module _ {X : Type 0} (lead cycle : List ℕ) (some : 0 < length cycle) (at : ℕ → X) (col : ℕ → ℕ)
    (step : (s t : ℕ) → at s ≡ at t → letter_at lead cycle s ≡ letter_at lead cycle t → (at (suc s) ≡ at (suc t)) × (col s ≡ col t)) where
  pub stretch-least : (a b v : ℕ) → FirstRepeat (λ i. at (length lead + i * length cycle)) a b
      → LeastOf col (length lead + a * length cycle) (length lead + b * length cycle) v → Least col v
  stretch-least a b v repeat least =
      subst (Least col) (least-once col T (T + suc d) _ v (least-lowest col T d) (subst (λ (u : ℕ). LeastOf col T u v) (sym end) least))
      (least-repeating col T d (λ t l. (step (t + suc d) t (places t l) (word t l)).1))
    where
      T : ℕ
      T = stretch_start lead cycle some a b repeat.earlier

      d : ℕ
      d = stretch_rest lead cycle some a b repeat.earlier

      end : T + suc d ≡ length lead + b * length cycle
      end = stretch-stop lead cycle some a b repeat.earlier

      word : (t : ℕ) → T ≤ t → letter_at lead cycle (t + suc d) ≡ letter_at lead cycle t
      word = stretch-again lead cycle some a b repeat.earlier

      places : (t : ℕ) → T ≤ t → at (t + suc d) ≡ at t
      places t l =
          le_ind (λ t. at (t + suc d) ≡ at t) (ap at end ∙ sym repeat.equal)
          (λ t l h. let e : suc t + suc d ≡ suc (t + suc d) = omega arith in ap at e ∙ (step (t + suc d) t h (word t l)).0) t l
