-- One letter finally stands for each letter of a sheet; it is not withdrawn, and the cells' chain ends with it. Assumes nothing.
use Prim.Native.Nat.{ℕ, zero, suc, ◌+◌, ◌≤◌, ◌<◌}
use Rattle.std.specs.Prelude.{◌≡◌, refl, ◌⊎◌, List}
use Rattle.std.proofs.Common.{subst, inl, inr, arith}
use borrow.Author.Tests.{lt-ltb, le-ltb}
use Rattle.superseding.specs.Superseding.{chain_end, final_letter}
use Rattle.format.specs.Format.{Withdrawal, WithdrawalsRight, Withdrawn, InForce}
use Rattle.format.specs.StandsFor.{Finally, itself, through}
use Rattle.format.specs.Withdrawals.{superseding_of}
use Rattle.format.proofs.WithdrawalLaws.{supersedes-right, withdrawn-or-not, superseded-cell, force-cell, one-superseding}

-- the letter that finally stands is in force
pub finally-in-force : {ws : List Withdrawal} {e l : ℕ} → Finally ws e l → InForce ws e
finally-in-force (itself f) = f
finally-in-force (through s h) = finally-in-force h

-- and a letter of the sheet
module _ (k : ℕ) (ws : List Withdrawal) (right : WithdrawalsRight k 0 ws) where
  pub finally-letter : {e l : ℕ} → Finally ws e l → l < k → e < k
  finally-letter (itself f) h = h
  finally-letter (through {l} {m} s g) h = finally-letter g (supersedes-right k 0 ws right l m s).2

module _ (k : ℕ) (few : k ≤ 8) (ws : List Withdrawal) (right : WithdrawalsRight k 0 ws) where
  -- there is one
  pub finally_one : (d e l : ℕ) → Finally ws d l → Finally ws e l → d ≡ e
  finally_one d e l (itself f) (itself g) = refl
  finally_one d e l (itself f) (through {m = m} s g) = absurd (f (m, s))
  finally_one d e l (through {m = m} s h) (itself g) = absurd (g (m, s))
  finally_one d e l (through {m = m} s h) (through {m = o} t g) =
      finally_one d e m h (subst (λ (x : ℕ). Finally ws e x) (one-superseding k few ws right l o m t s) g)

  abbrev cells : List ℕ
  cells = superseding_of ws

  -- it is the end of the cells' chain
  chain-ends : (steps l : ℕ) → l < k → 8 ≤ l + steps → Finally ws (chain_end cells l steps) l
  unfolding chain_end
  chain-ends zero l h b = absurd (omega arith)
  chain-ends (suc steps) l h b = by (withdrawn-or-not ws l) (λ m t g. chain-ends steps m t (omega arith))
    where
      by : Withdrawn ws l ⊎ InForce ws l → ((m : ℕ) → m < k → l < m → Finally ws (chain_end cells m steps) m) → Finally ws (chain_end cells l (suc steps)) l
      by (inl (m, s)) later =
          let c = superseded-cell k few ws right l m s in
          let (o, g, t) = supersedes-right k 0 ws right l m s in
          simp (c, lt-ltb l m g, lt-ltb m 8 (omega arith)) (through s (later m t g))
      by (inr f) later = let c = force-cell k few ws right l f in simp (c, le-ltb l 0 (omega arith)) (itself f)

  -- EACH LETTER has one that finally stands for it, and the lookup gives it
  pub finally-final : (l : ℕ) → l < k → Finally ws (final_letter cells l) l
  finally-final l h = chain-ends 8 l h (omega arith)

  pub final-is : (e l : ℕ) → l < k → Finally ws e l → final_letter cells l ≡ e
  final-is e l h f = finally_one (final_letter cells l) e l (finally-final l h) f
