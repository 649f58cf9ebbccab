-- The letter that a name stands for on a sheet.
use Rattle.std.specs.Prelude.{ℕ, ◌<◌, ◌≡◌, List, [], get_or}
use Rattle.names.specs.Name.{IsName, compose}
use Rattle.format.specs.Format.{Withdrawal, Sheet, Supersedes, InForce}

-- "the letter that finally stands for it": e stands for itself where it is not withdrawn, and for each letter whose superseding letter it finally stands for
pub data Finally (ws : List Withdrawal) (e : ℕ) : ℕ → Type 0 where
  itself : InForce ws e → Finally ws e e
  through : {l m : ℕ} → Supersedes ws l m → Finally ws e m → Finally ws e l

-- "Looking up a name now returns the letter that finally stands for it": for the one whose name is the same after composing
pub record StandsFor (σ : Sheet) (name : List ℕ) (l : ℕ) : Type 0 where
  pub named : ℕ
  pub letter : named < σ.k
  pub is_name : IsName name
  pub same : compose (get_or σ.names named []) ≡ compose name
  pub finally : Finally σ.withdrawals l named

-- two sheets with the same letters: as many, with the same names and the same `W` lines. Their states and transitions are their own.
pub record SameLetters (σ τ : Sheet) : Type 0 where
  pub count : σ.k ≡ τ.k
  pub names : σ.names ≡ τ.names
  pub withdrawals : σ.withdrawals ≡ τ.withdrawals
