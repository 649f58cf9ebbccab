-- docs/THEORY.md, section 9: for any endless word, with the premise LPO, there is a path through place i, and a least colour entered without end.
use Prim.Native.Nat.{ℕ, zero, suc, ◌+◌, ◌*◌, ◌-◌, ◌≤◌, ◌<◌}
use Rattle.std.specs.Prelude.{◌≡◌, refl, ◌⊎◌, Bool, true}
use Rattle.std.proofs.Common.{sym, subst, inl, inr}
use mathlib.Core.Logic.Dec
use native.Mathlib.Omega.{arith}
use Rattle.std.proofs.Math.Decide.{ℕ_discrete}
use Rattle.std.proofs.Math.Bool.{decide, decide_iff}
use Rattle.finite.specs.Finite.{find}
use Rattle.theory.specs.Run.{Run, Path, Through, Least}
use Rattle.theory.proofs.Basic.{inside, lead-in}
use Rattle.theory.proofs.Even.{path_inside}
use Rattle.theory.specs.Endless.{LPO}

-- the same for a row of decidable statements
lpo : LPO → (P : ℕ → Type 0) → ((k : ℕ) → Dec (P k)) → ((k : ℕ) × P k) ⊎ ((k : ℕ) → P k → ⊥)
unfolding LPO
lpo h P d = by (h (λ k. decide (d k)))
  where
    by : ((k : ℕ) × (decide (d k) ≡ true)) ⊎ ((k : ℕ) → decide (d k) ≡ true → ⊥) → ((k : ℕ) × P k) ⊎ ((k : ℕ) → P k → ⊥)
    by (inl (k, x)) = inl (k, (decide_iff (d k)).0 x)
    by (inr x) = inr (λ k y. x k ((decide_iff (d k)).1 y))

-- bounds for each of n things: one bound for all
bound : (n : ℕ) (Q : ℕ → ℕ → Type 0) → ((r d e : ℕ) → d ≤ e → Q r d → Q r e) → ((r : ℕ) → r < n → (d : ℕ) × Q r d)
    → (d : ℕ) × ((r : ℕ) → r < n → Q r d)
bound zero Q up h = (0, λ r l. absurd (omega arith))
bound (suc n) Q up h =
    let (d, x) = bound n Q up (λ r l. h r (omega arith)) in
    let (e, y) = h n (omega arith) in
    (d + e, λ r l. by d e x y r l (ℕ_discrete r n))
  where
    by : (d e : ℕ) → ((r : ℕ) → r < n → Q r d) → Q n e → (r : ℕ) → r < suc n → Dec (r ≡ n) → Q r (d + e)
    by d e x y r l (yes z) = rw z (up n e (d + e) (omega arith) y)
    by d e x y r l (no z) = up r d (d + e) (omega arith) (x r (omega arith))

-- König: in a graph with n states a step
module _ (h : LPO) (n : ℕ) (E : ℕ → ℕ → ℕ → Type 0) (dec_e : (t q r : ℕ) → Dec (E t q r)) where
  -- a path of d steps from q at time t
  abbrev Alive : ℕ → ℕ → ℕ → Type 0
  Alive zero t q = Unit {0}
  Alive (suc d) t q = (r : ℕ) × (r < n) × E t q r × Alive d (suc t) r

  dec_alive : (d t q : ℕ) → Dec (Alive d t q)
  dec_alive zero t q = yes tt
  dec_alive (suc d) t q = by (find (λ r. E t q r × Alive d (suc t) r) (λ r. Dec.and (dec_e t q r) (dec_alive d (suc t) r)) n)
    where
      by : ((r : ℕ) × (r < n) × (E t q r × Alive d (suc t) r)) ⊎ ((r : ℕ) → r < n → E t q r × Alive d (suc t) r → ⊥)
          → Dec ((r : ℕ) × (r < n) × E t q r × Alive d (suc t) r)
      by (inl (r, l, x)) = yes (r, l, x.0, x.1)
      by (inr x) = no (λ (r, l, e, a). x r l (e, a))

  less : (d e t q : ℕ) → d ≤ e → Alive e t q → Alive d t q
  less zero e t q l a = tt
  less (suc d) zero t q l a = absurd (omega arith)
  less (suc d) (suc e) t q l (r, m, x, y) = (r, m, x, less d e (suc t) r (omega arith) y)

  abbrev Forever : ℕ → ℕ → Type 0
  Forever t q = (d : ℕ) → Alive d t q

  forever? : (t q : ℕ) → Forever t q ⊎ ((d : ℕ) × (Alive d t q → ⊥))
  forever? t q = by (lpo h (λ d. Alive d t q → ⊥) (λ d. Dec.not (dec_alive d t q)))
    where
      by : ((d : ℕ) × (Alive d t q → ⊥)) ⊎ ((d : ℕ) → (Alive d t q → ⊥) → ⊥) → Forever t q ⊎ ((d : ℕ) × (Alive d t q → ⊥))
      by (inl x) = inr x
      by (inr x) = inl (λ d. (Dec.not-not (dec_alive d t q)).0 (x d))

  -- of finitely many states, some of which is alive for each d, one is alive for ever
  some-forever : (t : ℕ) (Z : ℕ → Type 0) → ((q : ℕ) → Dec (Z q)) → ((d : ℕ) → (q : ℕ) × (q < n) × Z q × Alive d t q)
      → (q : ℕ) × Z q × Forever t q
  some-forever t Z dec_z each = by (find (λ q. Z q × Forever t q) (λ q. both (dec_z q) (forever? t q)) n)
    where
      both : {q : ℕ} → Dec (Z q) → Forever t q ⊎ ((d : ℕ) × (Alive d t q → ⊥)) → Dec (Z q × Forever t q)
      both (yes x) (inl y) = yes (x, y)
      both (yes x) (inr (d, y)) = no (λ z. y (z.1 d))
      both (no x) y = no (λ z. x z.0)

      one : (q : ℕ) → (Z q × Forever t q → ⊥) → Forever t q ⊎ ((d : ℕ) × (Alive d t q → ⊥)) → (d : ℕ) × (Z q → Alive d t q → ⊥)
      one q f (inl y) = (0, λ z a. f (z, y))
      one q f (inr (d, y)) = (d, λ z a. y a)

      by : ((q : ℕ) × (q < n) × (Z q × Forever t q)) ⊎ ((q : ℕ) → q < n → Z q × Forever t q → ⊥) → (q : ℕ) × Z q × Forever t q
      by (inl (q, l, x)) = (q, x.0, x.1)
      by (inr f) =
          let (d, x) = bound n (λ q d. Z q → Alive d t q → ⊥) (λ q d e l g z a. g z (less d e t q l a)) (λ q l. one q (f q l) (forever? t q)) in
          let (q, l, z, a) = each d in
          absurd (x q l z a)

  next : (t q : ℕ) → Forever t q → (r : ℕ) × E t q r × Forever (suc t) r
  next t q a = some-forever (suc t) (λ r. E t q r) (dec_e t q) (λ d. a (suc d))

  abbrev At : Type 0
  At = (t : ℕ) × (q : ℕ) × Forever t q

  go : At → At
  go (t, q, a) = (suc t, (next t q a).0, (next t q a).2)

  module _ (A q : ℕ) (a : Forever A q) where
    iter : ℕ → At
    iter zero = (A, q, a)
    iter (suc k) = go (iter k)

    time : (k : ℕ) → (iter k).0 ≡ A + k
    unfolding iter go
    time zero = omega arith
    time (suc k) = let e = time k in omega arith

    endless : (f : ℕ → ℕ) × (f A ≡ q) × ((s : ℕ) → A ≤ s → E s (f s) (f (suc s)))
    unfolding iter go
    endless = (λ s. (iter (s - A)).1, (let e : A - A ≡ 0 = omega arith in rw e), λ s l. step s l (s - A) refl)
      where
        step : (s : ℕ) → A ≤ s → (k : ℕ) → s - A ≡ k → E s (iter (s - A)).1 (iter (suc s - A)).1
        step s l k e =
            let t : (iter k).0 ≡ s = (let x = time k in omega arith) in
            let e' : suc s - A ≡ suc k = omega arith in
            rw (e, e') (subst (λ z. E z (iter k).1 (iter (suc k)).1) t (next (iter k).0 (iter k).1 (iter k).2).1)

  path-alive : (d t : ℕ) (f : ℕ → ℕ) → ((s : ℕ) → t ≤ s → s ≤ t + d → f s < n) → ((s : ℕ) → t ≤ s → s < t + d → E s (f s) (f (suc s)))
      → Alive d t (f t)
  path-alive zero t f b e = tt
  path-alive (suc d) t f b e = (
    f (suc t),
    b (suc t) (omega arith) (omega arith),
    e t (omega arith) (omega arith),
    path-alive d (suc t) f (λ s x y. b s (omega arith) (omega arith)) (λ s x y. e s (omega arith) (omega arith)),
  )

module _ (h : LPO) {n : ℕ} {E M S U W : ℕ → ℕ → ℕ → Type 0} {K : ℕ → ℕ → Type 0} {p col : ℕ → ℕ} {rank : ℕ → ℕ → ℕ}
    (R : Run n E M S U W K p col rank) (dec_e : (t q r : ℕ) → Dec (E t q r)) (dec_s : (t j q : ℕ) → Dec (S t j q)) where
  module _ (i T : ℕ) (c : (t : ℕ) → T ≤ t → 2 * i + 2 ≤ col t) (t₀ : ℕ) (late : T ≤ t₀) (k₀ : K t₀ i) where
    -- for each d some state of place i is alive for d steps, so one is alive for ever
    some-alive : (q : ℕ) × S (suc t₀) i q × Forever h n E dec_e (suc t₀) q
    some-alive =
        some-forever h n E dec_e (suc t₀) (S (suc t₀) i) (dec_s (suc t₀) i)
        (λ d. let (f, sets, goes) = path_inside R i T c t₀ late k₀ (suc t₀ + d) (omega arith) in alive d f sets goes)
      where
        alive : (d : ℕ) (f : ℕ → ℕ) → ((s : ℕ) → t₀ < s → s ≤ suc t₀ + d → S s i (f s))
            → ((s : ℕ) → t₀ < s → s < suc t₀ + d → E s (f s) (f (suc s)))
            → (q : ℕ) × (q < n) × S (suc t₀) i q × Alive h n E dec_e d (suc t₀) q
        alive d f sets goes =
            let s = sets (suc t₀) (omega arith) (omega arith) in
            let below : (s : ℕ) → suc t₀ ≤ s → s ≤ suc t₀ + d → f s < n = λ s x y. R.state s i (f s) (sets s x y) in
            (f (suc t₀), R.state (suc t₀) i (f (suc t₀)) s, s, path-alive h n E dec_e d (suc t₀) f below goes)

    exists : (ξ : ℕ → ℕ) × Path E S ξ × S (suc t₀) i (ξ (suc t₀))
    exists = let (q, s, a) = some-alive in let (f, e, goes) = endless h n E dec_e (suc t₀) q a in by f (subst (S (suc t₀) i) (sym e) s) goes
      where
        by : (f : ℕ → ℕ) → S (suc t₀) i (f (suc t₀)) → ((s : ℕ) → suc t₀ ≤ s → E s (f s) (f (suc s)))
            → (ξ : ℕ → ℕ) × Path E S ξ × S (suc t₀) i (ξ (suc t₀))
        by f s goes =
            let (g, first, same, join) = lead-in R (suc t₀) f (omega arith) (inside R (suc t₀) i (f (suc t₀)) s) in
            let path : Path E S g = record { starts = first; goes = λ t. join (suc t) (λ s l m. goes s l) t (omega arith) } in
            (g, path, subst (S (suc t₀) i) (sym (same (suc t₀) (omega arith))) s)

  pub through-endless : Through E S K col
  through-endless i T c marked = let (t₀, l, k) = marked T in let (ξ, h, s) = exists i T c t₀ l k in (ξ, suc t₀, h, omega arith, s)

  -- each colour is entered without end or no more from some time on, so there is a least one entered without end
  recurs? : (c : ℕ) → ((t : ℕ) → (u : ℕ) × (t ≤ u) × (col u ≡ c)) ⊎ ((T : ℕ) × ((t : ℕ) → T ≤ t → col t ≡ c → ⊥))
  recurs? c = by (lpo h (λ t. (k : ℕ) → col (t + k) ≡ c → ⊥) (λ t. dec t (seen t)))
    where
      seen : (t : ℕ) → ((k : ℕ) × (col (t + k) ≡ c)) ⊎ ((k : ℕ) → col (t + k) ≡ c → ⊥)
      seen t = lpo h (λ k. col (t + k) ≡ c) (λ k. ℕ_discrete (col (t + k)) c)

      dec : (t : ℕ) → ((k : ℕ) × (col (t + k) ≡ c)) ⊎ ((k : ℕ) → col (t + k) ≡ c → ⊥) → Dec ((k : ℕ) → col (t + k) ≡ c → ⊥)
      dec t (inl (k, e)) = no (λ f. f k e)
      dec t (inr f) = yes f

      there : (t : ℕ) → (((k : ℕ) → col (t + k) ≡ c → ⊥) → ⊥) → ((k : ℕ) × (col (t + k) ≡ c)) ⊎ ((k : ℕ) → col (t + k) ≡ c → ⊥)
          → (u : ℕ) × (t ≤ u) × (col u ≡ c)
      there t g (inl (k, e)) = (t + k, omega arith, e)
      there t g (inr f) = absurd (g f)

      by : ((t : ℕ) × ((k : ℕ) → col (t + k) ≡ c → ⊥)) ⊎ ((t : ℕ) → ((k : ℕ) → col (t + k) ≡ c → ⊥) → ⊥)
          → ((t : ℕ) → (u : ℕ) × (t ≤ u) × (col u ≡ c)) ⊎ ((T : ℕ) × ((t : ℕ) → T ≤ t → col t ≡ c → ⊥))
      by (inl (T, f)) = inr (T, λ t l e. f (t - T) (let x : T + (t - T) ≡ t = omega arith in rw x e))
      by (inr g) = inl (λ t. there t (g t) (seen t))

  climb : (fuel k : ℕ) → k + fuel ≡ 2 * n + 2 → (T : ℕ) → ((t : ℕ) → T ≤ t → k ≤ col t) → (c : ℕ) × Least col c
  climb zero k e T low = absurd (let a = low T (omega arith) in let b = R.col-top T in omega arith)
  climb (suc f) k e T low = by (recurs? k) (λ T' l. climb f (suc k) (omega arith) T' l)
    where
      by : ((t : ℕ) → (u : ℕ) × (t ≤ u) × (col u ≡ k)) ⊎ ((T : ℕ) × ((t : ℕ) → T ≤ t → col t ≡ k → ⊥))
          → ((T' : ℕ) → ((t : ℕ) → T' ≤ t → suc k ≤ col t) → (c : ℕ) × Least col c) → (c : ℕ) × Least col c
      by (inl o) ih = (k, record { often = o; from = T; low = low })
      by (inr (T', f)) ih = ih (T + T') (λ t l. let a = low t (omega arith) in let b = f t (omega arith) in omega arith)

  pub least-endless : (c : ℕ) × Least col c
  least-endless = climb (2 * n + 2) 0 (omega arith) 0 (λ t l. omega arith)
