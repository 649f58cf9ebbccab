-- docs/THEORY.md, sections 4 and 5: the least colour entered without end is even exactly if some path takes recurrent transitions without end.
use Rattle.std.specs.Prelude.{ℕ, suc, ◌+◌, ◌*◌, ◌-◌, ◌/◌, ◌%◌, ◌≤◌, ◌≡◌, ◌↔◌}
use Rattle.std.proofs.Common.{◌∙◌, arith}
use Rattle.std.proofs.Math.Decide.{ℕ_discrete}
use Rattle.finite.specs.Least.{lowest, low, often}
use Rattle.theory.specs.Run.{Run, Path, Often, Alone, Through, Least}
use Rattle.theory.proofs.Odd.{never-odd}
use Rattle.theory.proofs.Even.{marks}
use Rattle.theory.proofs.Repeating.{through-repeating}
use Rattle.theory.specs.Endless.{LPO}
use Rattle.theory.proofs.Endless.{through-endless}

-- a sequence of colours that repeats: the least of one repetition is the least entered without end
pub least-repeating : (col : ℕ → ℕ) (T d : ℕ) → ((t : ℕ) → T ≤ t → col (t + suc d) ≡ col t) → Least col (lowest col T d)
least-repeating col T d again = record { often = often col T d again; from = T; low = low col T d again }

module _ {n : ℕ} {E M S U W : ℕ → ℕ → ℕ → Type 0} {K : ℕ → ℕ → Type 0} {p col : ℕ → ℕ} {rank : ℕ → ℕ → ℕ}
    (R : Run n E M S U W K p col rank) where
  -- a path that takes recurrent transitions without end: the least colour entered without end is even
  path-even : (c : ℕ) → Least col c → (ξ : ℕ → ℕ) → Path E S ξ → Often M ξ → c % 2 ≡ 0
  path-even c least ξ h o = by (ℕ_discrete (c % 2) 0)
    where
      by : Dec (c % 2 ≡ 0) → c % 2 ≡ 0
      by (yes e) = e
      by (no e) =
          absurd (never-odd R (c / 2) least.from (λ t l. let x = least.low t l in omega arith)
          (λ t. let (u, l, x) = least.often t in (u, l, omega arith)) ξ h o)

  -- and if it is even there is such a path, where some path stays in the place that is marked again and again
  even-path : Through E S K col → Alone E S → (c : ℕ) → Least col c → c % 2 ≡ 0 → (ξ : ℕ → ℕ) × Path E S ξ × Often M ξ
  even-path through alone c least ev =
      let (u₀, l₀, e₀) = least.often 0 in
      let pc = R.col-pos u₀ in
      let ci : c ≡ 2 * (c / 2 - 1) + 2 = omega arith in
      let lo : (t : ℕ) → least.from ≤ t → 2 * (c / 2 - 1) + 2 ≤ col t = λ t l. (let x = least.low t l in omega arith) in
      let ks : (t : ℕ) → (u : ℕ) × (t ≤ u) × K u (c / 2 - 1) =
      λ t. (let (u, l, e) = least.often t in (u, l, R.col-even u (c / 2 - 1) (e ∙ ci))) in
      let (ξ, A, h, a, s) = through (c / 2 - 1) least.from lo ks in
      (ξ, h, marks R (c / 2 - 1) least.from lo ξ h (alone ξ h) ks A a s)

  -- transitions and colours repeat from T on, with period suc d
  pub repeating : Alone E S → (T d : ℕ) → ((s q r : ℕ) → T ≤ s → E s q r → E (s + suc d) q r) → ((t : ℕ) → T ≤ t → col (t + suc d) ≡ col t)
      → (lowest col T d % 2 ≡ 0) ↔ ((ξ : ℕ → ℕ) × Path E S ξ × Often M ξ)
  repeating alone T d edges cols =
      let least = least-repeating col T d cols in
      (even-path (through-repeating R (suc d) T (omega arith) edges) alone (lowest col T d) least, λ (ξ, h, o). path-even (lowest col T d) least ξ h o)

  -- any endless word
  pub endless : LPO → ((t q r : ℕ) → Dec (E t q r)) → ((t j q : ℕ) → Dec (S t j q)) → Alone E S → (c : ℕ) → Least col c
      → (c % 2 ≡ 0) ↔ ((ξ : ℕ → ℕ) × Path E S ξ × Often M ξ)
  endless lpo dec_e dec_s alone c least = (even-path (through-endless lpo R dec_e dec_s) alone c least, λ (ξ, h, o). path-even c least ξ h o)
