-- The ends of the passes run so far: which numbers stand at them, and the least colour of each pass. Assumes nothing.
use Rattle.std.specs.Prelude.{ℕ, suc, ◌+◌, ◌*◌, ◌<◌, ◌≡◌, List, ◌⊎◌, length, get_or, set, replicate}
use Rattle.std.proofs.Common.{sym, ◌∙◌, ap, inl, inr, arith, get_or-set_same, get_or-set_other}
use Rattle.std.proofs.Math.Decide.{ℕ_discrete, dec_lt}
use Rattle.gate.specs.GateLaws.{zeros}
use Rattle.finite.specs.Finite.{pigeon}
use Rattle.passes.specs.Passes.{FirstRepeat, LeastOf}

-- the ends of some passes are told apart: the cell of each number at an end has the count of passes up to it, itself included
pub record Seen (end : ℕ → ℕ) (passes : ℕ) (seen : List ℕ) : Type 0 where
  pub told : (j : ℕ) → j < passes → get_or seen (end j) 0 ≡ suc j
  pub only : (x : ℕ) → (get_or seen x 0 ≡ 0) ⊎ ((j : ℕ) × (j < passes) × (end j ≡ x))

pub seen_none : (end : ℕ → ℕ) (n : ℕ) → Seen end 0 (replicate {A = ℕ} n 0)
seen_none end n = record { told = λ j l. absurd (omega arith); only = λ x. inl (zeros n x) }

module _ (end : ℕ → ℕ) (passes : ℕ) (seen : List ℕ) (h : Seen end passes seen) where
  -- no number stands at two of these ends
  apart : (i j : ℕ) → i < j → j < passes → end i ≡ end j → ⊥
  apart i j l m e =
      let x = h.told i (omega arith) in
      let y = h.told j m in
      let z : get_or seen (end i) 0 ≡ get_or seen (end j) 0 = ap (λ (n : ℕ). get_or seen n 0) e in
      omega arith

  module _ (new : get_or seen (end passes) 0 ≡ 0) where
    other : (j : ℕ) → j < passes → end j ≡ end passes → ⊥
    other j l e =
        let x = h.told j l in
        let z : get_or seen (end j) 0 ≡ get_or seen (end passes) 0 = ap (λ (n : ℕ). get_or seen n 0) e in
        omega arith

    pub seen_more : end passes < length seen → Seen end (passes + 1) (set seen (end passes) (passes + 1))
    seen_more room = record { told = λ j l. tell j l (ℕ_discrete j passes); only = λ x. from x (ℕ_discrete x (end passes)) (h.only x) }
      where
        tell : (j : ℕ) → j < passes + 1 → Dec (j ≡ passes) → get_or (set seen (end passes) (passes + 1)) (end j) 0 ≡ suc j
        tell j l (yes e) =
            ap (λ (x : ℕ). get_or (set seen (end passes) (passes + 1)) (end x) 0) e
            ∙ (get_or-set_same seen (end passes) (passes + 1) 0 room ∙ (let z : passes + 1 ≡ suc j = omega arith in z))
        tell j l (no e) =
            get_or-set_other seen (end passes) (end j) (passes + 1) 0 (other j (omega arith)) ∙ h.told j (omega arith)

        from : (x : ℕ) → Dec (x ≡ end passes) → (get_or seen x 0 ≡ 0) ⊎ ((j : ℕ) × (j < passes) × (end j ≡ x))
            → (get_or (set seen (end passes) (passes + 1)) x 0 ≡ 0) ⊎ ((j : ℕ) × (j < passes + 1) × (end j ≡ x))
        from x (yes e) o = inr (passes, omega arith, sym e)
        from x (no e) (inl z) = inl (get_or-set_other seen (end passes) x (passes + 1) 0 e ∙ z)
        from x (no e) (inr (j, l, z)) = inr (j, omega arith, z)

    -- as many different numbers as ends: no more than there are
    pub seen_few : (count : ℕ) → ((i : ℕ) → end i < count) → passes < count
    seen_few count below = by (dec_lt passes count)
      where
        by : Dec (passes < count) → passes < count
        by (yes l) = l
        by (no l) =
            let (a, b, x, y, e) = pigeon count end (λ k m. below k) in
            absurd (elim (ℕ_discrete b passes) [
              | yes z ↦ other a (omega arith) (e ∙ ap end z)
              | no z ↦ apart a b x (omega arith) e
            ])

  -- the first end that was seen before
  pub seen-again : (get_or seen (end passes) 0 ≡ 0 → ⊥) → (j : ℕ) × FirstRepeat end j passes × (get_or seen (end passes) 0 ≡ suc j)
  seen-again old = by (h.only (end passes))
    where
      by : (get_or seen (end passes) 0 ≡ 0) ⊎ ((j : ℕ) × (j < passes) × (end j ≡ end passes))
          → (j : ℕ) × FirstRepeat end j passes × (get_or seen (end passes) 0 ≡ suc j)
      by (inl e) = absurd (old e)
      by (inr (j, l, e)) = (j, record { earlier = l; equal = e; first = apart }, ap (λ (n : ℕ). get_or seen n 0) (sym e) ∙ h.told j l)

-- the least colour of each pass stands at its number, from 1
abbrev pub Leasts : (ℕ → ℕ) → ℕ → ℕ → ℕ → List ℕ → Type 0
Leasts f m c passes leasts = (j : ℕ) → j < passes → LeastOf f (m + j * c) (m + suc j * c) (get_or leasts (suc j) 0)

pub leasts-more : (f : ℕ → ℕ) (m c passes v : ℕ) (leasts : List ℕ) → Leasts f m c passes leasts → passes + 1 < length leasts
    → LeastOf f (m + passes * c) (m + suc passes * c) v → Leasts f m c (passes + 1) (set leasts (passes + 1) v)
leasts-more f m c passes v leasts h room new j l = by (ℕ_discrete j passes)
  where
    by : Dec (j ≡ passes) → LeastOf f (m + j * c) (m + suc j * c) (get_or (set leasts (passes + 1) v) (suc j) 0)
    by (yes e) =
        let z : suc passes ≡ passes + 1 = omega arith in
        let g : get_or (set leasts (passes + 1) v) (suc passes) 0 ≡ v =
        ap (λ (n : ℕ). get_or (set leasts (passes + 1) v) n 0) z ∙ get_or-set_same leasts (passes + 1) v 0 room in
        rw (e, g) new
    by (no e) = rw (get_or-set_other leasts (passes + 1) (suc j) v 0 (λ z. omega arith)) (h j (omega arith))
