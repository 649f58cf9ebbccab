-- docs/THEORY.md, section 9: colours up to a bound have a least one that is entered without end. Each colour is entered without end, or no more from some
-- time on.
use Rattle.std.specs.Prelude.{ℕ, zero, suc, ◌+◌, ◌≤◌, ◌≡◌, ◌⊎◌}
use Rattle.std.proofs.Common.{subst, inl, inr, arith}
use Rattle.std.proofs.Math.Decide.{ℕ_discrete}
use Rattle.theory.specs.Run.{EnteredWithoutEnd, Least}
use Rattle.endless_words.proofs.WithoutEndLaws.{eventually-least, one-least}
use Rattle.theory.specs.Endless.{LPO}
use Rattle.endless_words.specs.EndlessWord.{LeastWithoutEnd}
use Rattle.endless_words.specs.PremiseLaws.{recurs-or-stops}

module _ (premise : LPO) (col : ℕ → ℕ) (top : ℕ) (most : (t : ℕ) → col t ≤ top) where
  -- no colour below c is entered from T on: c is the one, or none below c + 1 is entered from some later time on
  climb : (fuel c : ℕ) → c + fuel ≡ suc top → (T : ℕ) → ((t : ℕ) → T ≤ t → c ≤ col t) → (c : ℕ) × Least col c
  climb zero c e T low = absurd (let a = low T (omega arith) in let b = most T in omega arith)
  climb (suc fuel) c e T low = by (recurs-or-stops premise (λ t. col t ≡ c) (λ t. ℕ_discrete (col t) c)) (climb fuel (suc c) (omega arith))
    where
      by : EnteredWithoutEnd col c ⊎ ((T : ℕ) × ((t : ℕ) → T ≤ t → col t ≡ c → ⊥))
          → ((T : ℕ) → ((t : ℕ) → T ≤ t → suc c ≤ col t) → (c : ℕ) × Least col c) → (c : ℕ) × Least col c
      by (inl entered) higher = (c, record { often = entered; from = T; low = low })
      by (inr (S, stops)) higher = higher (T + S) (λ t l. let a = low t (omega arith) in let b = stops t (omega arith) in omega arith)

  pub least-bounded : (c : ℕ) × Least col c
  least-bounded = climb (suc top) 0 (omega arith) 0 (λ t l. omega arith)

  -- so from some time on no colour below the least is entered
  pub least-eventually : (c : ℕ) → LeastWithoutEnd col c → Least col c
  least-eventually c h = let (d, k) = least-bounded in subst (Least col) (one-least (eventually-least k) h) k
