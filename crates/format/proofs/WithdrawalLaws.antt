-- Withdrawals that are right, as cells: each withdrawn letter's cell has its superseding letter, every other cell is 0. Assumes nothing.
use Rattle.std.specs.Prelude.{ℕ, zero, suc, ◌+◌, ◌-◌, ◌≤◌, ◌<◌, ◌≡◌, ◌⊎◌, length, set, replicate}
use Rattle.std.proofs.Math.Path.{refl}
use Rattle.std.proofs.Common.{sym, ◌∙◌, length-set, get_or-set_same, arith}
use Rattle.std.proofs.Math.Logic.{inl, inr}
use mathlib.Core.List.{List, [], ◌∷◌}
use Rattle.std.proofs.Math.ListN.{get_or}
use Rattle.std.proofs.Math.Seq.{get_or-set_other}
use Rattle.std.proofs.Math.Decide.{ℕ_discrete}
use Rattle.gate.specs.GateLaws.{zeros}
use Rattle.format.specs.Format.{Withdrawal, WithdrawalsRight, Supersedes, Withdrawn, InForce}
use Rattle.format.specs.Withdrawals.{withdrawn_by, withdrawn_in, superseding_of, TellWithdrawn}

-- a superseding letter is a letter of the sheet, and larger
pub supersedes-right : (k least : ℕ) (ws : List Withdrawal) → WithdrawalsRight k least ws → (l m : ℕ) → Supersedes ws l m → (least ≤ l) × (l < m) × (m < k)
supersedes-right k least [] right l m s = absurd s
supersedes-right k least (w ∷ ws) right l m (inl (a, b)) =
    let o = right.0.order in
    let g = right.0.larger in
    let t = right.0.letter in
    (omega arith, omega arith, omega arith)
supersedes-right k least (w ∷ ws) right l m (inr s) =
    let (o, g, t) = supersedes-right k (w.letter + 1) ws right.1 l m s in
    let h = right.0.order in
    (omega arith, g, t)

-- a letter is withdrawn or in force
pub withdrawn-or-not : (ws : List Withdrawal) (l : ℕ) → Withdrawn ws l ⊎ InForce ws l
withdrawn-or-not [] l = inr (λ w. w.1)
withdrawn-or-not (w ∷ ws) l = by (ℕ_discrete w.letter l) (withdrawn-or-not ws l)
  where
    by : Dec (w.letter ≡ l) → Withdrawn ws l ⊎ InForce ws l → Withdrawn (w ∷ ws) l ⊎ InForce (w ∷ ws) l
    by (yes e) h = inl (w.by, inl (e, refl))
    by (no d) (inl (m, s)) = inl (m, inr s)
    by (no d) (inr f) = inr (λ v. neither v.0 v.1)
      where
        neither : (m : ℕ) → Supersedes (w ∷ ws) l m → ⊥
        neither m (inl (a, b)) = d a
        neither m (inr s) = f (m, s)

-- "strictly ascending by letter": a line further down is of a larger letter
not-below : (k least : ℕ) (ws : List Withdrawal) → WithdrawalsRight k least ws → (j : ℕ) → j < length ws → least ≤ (get_or ws j (withdrawn_by 0 0)).letter
not-below k least [] right j h = absurd (omega arith)
not-below k least (w ∷ ws) right zero h = right.0.order
not-below k least (w ∷ ws) right (suc j) h =
    let o = right.0.order in
    let rest = not-below k (w.letter + 1) ws right.1 j (omega arith) in
    omega arith

pub ascending : (k least : ℕ) (ws : List Withdrawal) → WithdrawalsRight k least ws → (i j : ℕ) → i < j → j < length ws
    → (get_or ws i (withdrawn_by 0 0)).letter < (get_or ws j (withdrawn_by 0 0)).letter
ascending k least [] right i j l h = absurd (omega arith)
ascending k least (w ∷ ws) right zero zero l h = absurd (omega arith)
ascending k least (w ∷ ws) right zero (suc j) l h = let rest = not-below k (w.letter + 1) ws right.1 j (omega arith) in omega arith
ascending k least (w ∷ ws) right (suc i) zero l h = absurd (omega arith)
ascending k least (w ∷ ws) right (suc i) (suc j) l h = ascending k (w.letter + 1) ws right.1 i j (omega arith) (omega arith)

-- the last letter is never withdrawn
pub last-in-force : (k : ℕ) (ws : List Withdrawal) → WithdrawalsRight k 0 ws → InForce ws (k - 1)
last-in-force k ws right (m, s) = let (o, g, t) = supersedes-right k 0 ws right (k - 1) m s in omega arith

-- so there are fewer withdrawals than letters: at most seven
pub fewer-withdrawals : (k least : ℕ) (ws : List Withdrawal) → WithdrawalsRight k least ws → least < k → least + length ws < k
fewer-withdrawals k least [] right h = omega arith
fewer-withdrawals k least (w ∷ ws) right h =
    let o = right.0.order in
    let g = right.0.larger in
    let t = right.0.letter in
    let rest = fewer-withdrawals k (w.letter + 1) ws right.1 (omega arith) in
    omega arith

module _ (k : ℕ) (few : k ≤ 8) where
  -- the cell of a letter in force stays
  cell-kept : (least : ℕ) (ws : List Withdrawal) → WithdrawalsRight k least ws → (l : ℕ) → InForce ws l → (cells : List ℕ) → get_or (withdrawn_in cells ws) l 0 ≡ get_or cells l 0
  unfolding withdrawn_in
  cell-kept least [] right l f cells = refl
  cell-kept least (w ∷ ws) right l f cells =
      cell-kept (w.letter + 1) ws right.1 l (λ v. f (v.0, inr v.1)) (set cells w.letter w.by)
      ∙ get_or-set_other cells w.letter l w.by 0 (λ e. f (w.by, inl (sym e, refl)))

  -- that of a withdrawn one has its superseding letter
  cell-has : (least : ℕ) (ws : List Withdrawal) → WithdrawalsRight k least ws → (l m : ℕ) → Supersedes ws l m → (cells : List ℕ) → length cells ≡ 8
      → get_or (withdrawn_in cells ws) l 0 ≡ m
  unfolding withdrawn_in
  cell-has least [] right l m s cells size = absurd s
  cell-has least (w ∷ ws) right l m (inl (a, b)) cells size =
      let g = right.0.larger in
      let t = right.0.letter in
      let later : InForce ws l = λ v. (let o = (supersedes-right k (w.letter + 1) ws right.1 l v.0 v.1).0 in omega arith) in
      let here : get_or (set cells w.letter w.by) l 0 ≡ w.by = rw (sym a) (get_or-set_same cells w.letter w.by 0 (omega arith)) in
      cell-kept (w.letter + 1) ws right.1 l later (set cells w.letter w.by) ∙ (here ∙ b)
  cell-has least (w ∷ ws) right l m (inr s) cells size =
      cell-has (w.letter + 1) ws right.1 l m s (set cells w.letter w.by) (length-set cells w.letter w.by ∙ size)

  module _ (ws : List Withdrawal) (right : WithdrawalsRight k 0 ws) where
    pub superseded-cell : (l m : ℕ) → Supersedes ws l m → get_or (superseding_of ws) l 0 ≡ m
    unfolding superseding_of
    superseded-cell l m s = cell-has 0 ws right l m s (replicate 8 0) refl

    pub force-cell : (l : ℕ) → InForce ws l → get_or (superseding_of ws) l 0 ≡ 0
    unfolding superseding_of
    force-cell l f = cell-kept 0 ws right l f (replicate 8 0) ∙ zeros 8 l

    -- a letter has one superseding letter
    pub one-superseding : (l m o : ℕ) → Supersedes ws l m → Supersedes ws l o → m ≡ o
    one-superseding l m o s t = sym (superseded-cell l m s) ∙ superseded-cell l o t

    pub superseding-tell : TellWithdrawn ws (superseding_of ws)
    superseding-tell = record {
      in-force = λ l e v. (let r = supersedes-right k 0 ws right l v.0 v.1 in let c = superseded-cell l v.0 v.1 in omega arith);
      withdrawn = λ l d. by l d (withdrawn-or-not ws l);
    }
      where
        by : (l : ℕ) → (get_or (superseding_of ws) l 0 ≡ 0 → ⊥) → Withdrawn ws l ⊎ InForce ws l → Withdrawn ws l
        by l d (inl v) = v
        by l d (inr f) = absurd (d (force-cell l f))
