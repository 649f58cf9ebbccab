-- docs/THEORY.md, section 3 (i): where the transitions repeat, there is a path through place i. Of n + 1 states, a period apart, two are the same.
use Rattle.std.specs.Prelude.{ℕ, suc, ◌+◌, ◌*◌, ◌-◌, ◌≤◌, ◌<◌, ◌≡◌}
use Rattle.std.proofs.Common.{sym, ◌∙◌, ap, arith, mul-le-mul_right}
use Rattle.finite.specs.Finite.{pigeon}
use Rattle.finite.specs.Paths.{loop, shift}
use Rattle.theory.specs.Run.{Run, Path, Through}
use Rattle.theory.proofs.Basic.{inside, lead-in}
use Rattle.theory.proofs.Even.{path_inside}

module _ {n : ℕ} {E M S U W : ℕ → ℕ → ℕ → Type 0} {K : ℕ → ℕ → Type 0} {p col : ℕ → ℕ} {rank : ℕ → ℕ → ℕ}
    (R : Run n E M S U W K p col rank) where
  -- a path from A on that is in the same state L later, and from there on repeated for ever
  close : (i A L : ℕ) (f : ℕ → ℕ) → 0 < A → 0 < L → f A ≡ f (A + L) → S A i (f A) → ((s : ℕ) → A ≤ s → s < A + L → E s (f s) (f (suc s)))
      → ((s q r : ℕ) → A ≤ s → E s q r → E (s + L) q r) → (ξ : ℕ → ℕ) × Path E S ξ × S A i (ξ A)
  close i A L f a l e s goes again =
      let (g, first, same, join) = lead-in R A f a (inside R A i (f A) s) in
      by g first same (join (A + L) goes)
    where
      by : (g : ℕ → ℕ) → S 0 0 (g 0) → ((s : ℕ) → A ≤ s → g s ≡ f s) → ((s : ℕ) → s < A + L → E s (g s) (g (suc s)))
          → (ξ : ℕ → ℕ) × Path E S ξ × S A i (ξ A)
      by g first same path =
          let ends : g (A + L) ≡ g A = same (A + L) (omega arith) ∙ sym e ∙ sym (same A (omega arith)) in
          let (ξ, early, endless) = loop E A L l again g ends path in
          (ξ, record { starts = rw (early 0 (omega arith)) first; goes = endless }, rw (early A (omega arith) ∙ same A (omega arith)) s)

  -- the transitions repeat with period P from B on, and place i is marked at t₀
  module _ (i T : ℕ) (c : (t : ℕ) → T ≤ t → 2 * i + 2 ≤ col t) (P B : ℕ) (pos : 0 < P) (again : (s q r : ℕ) → B ≤ s → E s q r → E (s + P) q r)
      (t₀ : ℕ) (late : T ≤ t₀) (repeats : B ≤ t₀) (k₀ : K t₀ i) where
    -- a path inside place i for n periods
    module _ (f : ℕ → ℕ) (sets : (s : ℕ) → t₀ < s → s ≤ suc t₀ + n * P → S s i (f s))
        (goes : (s : ℕ) → t₀ < s → s < suc t₀ + n * P → E s (f s) (f (suc s))) where
      below : (k : ℕ) → k ≤ n → f (suc t₀ + k * P) < n
      below k l =
          let m = mul-le-mul_right P l in
          R.state (suc t₀ + k * P) i (f (suc t₀ + k * P)) (sets (suc t₀ + k * P) (omega arith) (omega arith))

      repeated : (a b d : ℕ) → b ≡ a + suc d → b ≤ n → f (suc t₀ + a * P) ≡ f (suc t₀ + b * P)
          → (ξ : ℕ → ℕ) × (A : ℕ) × Path E S ξ × (T ≤ A) × S A i (ξ A)
      repeated a b d e l same =
          let m = mul-le-mul_right P l in
          let sum : suc t₀ + a * P + suc d * P ≡ suc t₀ + b * P = rw e (omega arith) in
          let (ξ, path, s) =
          close i (suc t₀ + a * P) (suc d * P) f (omega arith) (omega arith) (same ∙ ap f (sym sum))
          (sets (suc t₀ + a * P) (omega arith) (omega arith))
          (λ s x y. goes s (omega arith) (omega arith)) (λ s q r x. shift E B P pos again (suc d) s q r (omega arith)) in
          (ξ, suc t₀ + a * P, path, omega arith, s)

      found : (ξ : ℕ → ℕ) × (A : ℕ) × Path E S ξ × (T ≤ A) × S A i (ξ A)
      found = let (a, b, l, m, e) = pigeon n (λ k. f (suc t₀ + k * P)) below in repeated a b (b - suc a) (omega arith) m e

    exists : (ξ : ℕ → ℕ) × (A : ℕ) × Path E S ξ × (T ≤ A) × S A i (ξ A)
    exists = let (f, sets, goes) = path_inside R i T c t₀ late k₀ (suc t₀ + n * P) (omega arith) in found f sets goes

  pub through-repeating : (P B : ℕ) → 0 < P → ((s q r : ℕ) → B ≤ s → E s q r → E (s + P) q r) → Through E S K col
  through-repeating P B pos again i T c marked = let (t₀, l, k) = marked (T + B) in exists i T c P B pos again t₀ (omega arith) (omega arith) k
