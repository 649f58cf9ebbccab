-- What a test of all numbers below a bound tells, by induction on the bound. Assumes nothing.
use Rattle.std.specs.Prelude.{ℕ, zero, suc, ◌<◌, ◌≡◌, refl, Bool, true, false, not, ◌||◌}
use Rattle.std.proofs.Common.{ap, sym, ◌∙◌, true≢false, arith}
use Rattle.std.proofs.Math.Bool.{or-true, and-eq-true_iff}
use Rattle.std.proofs.lemmas.Bool.{false≢true}
use Rattle.std.proofs.Math.Decide.{ℕ_discrete}
use Rattle.known.specs.Below.{all, any}

pub not-both : (a : Bool) → not a ≡ true → a ≡ true → ⊥
not-both a e f = true≢false (sym e ∙ ap not f)

pub all-at : (n : ℕ) (f : ℕ → Bool) → all n f ≡ true → (i : ℕ) → i < n → f i ≡ true
unfolding all
all-at zero f e i h = absurd (omega arith)
all-at (suc n) f e i h = by (ℕ_discrete i n) (all-at n f ((and-eq-true_iff (f n) (all n f)).0 e).1 i)
  where
    by : Dec (i ≡ n) → (i < n → f i ≡ true) → f i ≡ true
    by (yes p) ih = ap f p ∙ ((and-eq-true_iff (f n) (all n f)).0 e).0
    by (no p) ih = ih (omega arith)

pub any_of : (n : ℕ) (f : ℕ → Bool) (i : ℕ) → i < n → f i ≡ true → any n f ≡ true
unfolding any
any_of zero f i h e = absurd (omega arith)
any_of (suc n) f i h e = by (ℕ_discrete i n) (λ g. any_of n f i g e)
  where
    by : Dec (i ≡ n) → (i < n → any n f ≡ true) → (f n || any n f) ≡ true
    by (yes p) ih = rw (ap f (sym p) ∙ e)
    by (no p) ih = rw (ih (omega arith)) (or-true (f n))

pub any-is : (n : ℕ) (f : ℕ → Bool) → any n f ≡ true → (i : ℕ) × (i < n) × (f i ≡ true)
unfolding any
any-is zero f e = absurd (false≢true e)
any-is (suc n) f e = by (f n) refl e (any-is n f)
  where
    by : (b : Bool) → f n ≡ b → (b || any n f) ≡ true → (any n f ≡ true → (i : ℕ) × (i < n) × (f i ≡ true)) → (i : ℕ) × (i < suc n) × (f i ≡ true)
    by true p e ih = (n, omega arith, p)
    by false p e ih = let (i, h, q) = ih e in (i, omega arith, q)
