-- docs/THEORY.md, section 2: where the least colour entered without end is 2i + 2, each path through place i takes recurrent transitions without end.
use Rattle.std.specs.Prelude.{ℕ, suc, ◌+◌, ◌*◌, ◌≤◌, ◌<◌, ◌≡◌, ◌⊎◌}
use Rattle.std.proofs.Common.{inl, inr, arith}
use Rattle.std.proofs.Math.Decide.{dec_lt, ℕ_discrete, le_ind}
use Rattle.finite.specs.Paths.{trace}
use Rattle.theory.specs.Run.{Run, Path, Often}
use Rattle.theory.proofs.Basic.{at_place, has-origin, inside, rank-le, rank-full, Fulls, rank-ge, holds, keeps, p-keeps}

module _ {n : ℕ} {E M S U W : ℕ → ℕ → ℕ → Type 0} {K : ℕ → ℕ → Type 0} {p col : ℕ → ℕ} {rank : ℕ → ℕ → ℕ}
    (R : Run n E M S U W K p col rank) where
  -- place i under colours from 2i + 2 on: it is never emptied, and no place before it is marked
  module _ (i T : ℕ) (c : (t : ℕ) → T ≤ t → 2 * i + 2 ≤ col t) where
    marked-front : (t : ℕ) → K t i → i < p t
    marked-front t k = let (r, w) = R.mark-some t i k in let (j, l, u) = R.mark-in t i r k w in let m = R.none t j r u in omega arith

    fulls : (t : ℕ) → T ≤ t → i < p t → Fulls R t (suc i)
    fulls t a l = holds R t (suc i) (let d = c t a in omega arith) l

    rank-here : (t : ℕ) → T ≤ t → i < p t → rank t i ≡ i
    rank-here t a l = rank-full R t i (λ j m. fulls t a l j (omega arith))

    -- L6: the set at place i after the pass is the one at place i after closing up
    here : (t r : ℕ) → T ≤ t → i < p t → S (suc t) i r → W t i r
    here t r a l s = let (j, e, w) = R.move⁻ t i r s in by j e w (ℕ_discrete j i)
      where
        by : (j : ℕ) → i ≡ rank t j → W t j r → Dec (j ≡ i) → W t i r
        by j e w (yes d) = rw d at w
        by j e w (no d) = absurd (by2 (dec_lt j i))
          where
            by2 : Dec (j < i) → ⊥
            by2 (yes x) = let m = rank-le R t j in omega arith
            by2 (no x) = let m = rank-ge R t (suc i) j (fulls t a l) (omega arith) in omega arith

    front-keeps : (t : ℕ) → T ≤ t → i < p t → i < p (suc t)
    front-keeps t a l = p-keeps R t (suc i) (let d = c t a in omega arith) l

    -- L7: the states of place i go on into place i, and come from there
    flow : (t q r : ℕ) → T ≤ t → S t i q → E t q r → S (suc t) i r
    flow t q r a s e =
        let l : i < p t = R.front t i q s in
        let (k, x, y, w) = keeps R t i i r (let d = c t a in omega arith) (omega arith) (R.old t i q r s e) in
        let d : k ≡ i = omega arith in
        at_place S (rank-here t a l) (R.move t i r (at_place W d w))

    back : (t r : ℕ) → T ≤ t → i < p t → S (suc t) i r → (q : ℕ) × S t i q × E t q r
    back t r a l s = R.old⁻ t i r l (R.kept t i r (here t r a l s))

    -- once it is marked, place i is never empty again, and each of its states is the end of a path inside it
    module _ (t₀ : ℕ) (late : T ≤ t₀) (k₀ : K t₀ i) where
      stays-full : (u : ℕ) → t₀ ≤ u → i < p u
      stays-full u l = le_ind (λ v. i < p v) (marked-front t₀ k₀) (λ v x y. front-keeps v (omega arith) y) u l

      pub path_inside : (u : ℕ) → t₀ < u
          → (f : ℕ → ℕ) × ((s : ℕ) → t₀ < s → s ≤ u → S s i (f s)) × ((s : ℕ) → t₀ < s → s < u → E s (f s) (f (suc s)))
      path_inside u l =
          let (r, s) = R.full u i (stays-full u (omega arith)) in
          let step : (t r : ℕ) → t₀ < t → S (suc t) i r → (q : ℕ) × S t i q × E t q r =
          λ t r l. back t r (omega arith) (stays-full t (omega arith)) in
          let (f, e, sets, goes) = trace E (λ t x. S t i x) (suc t₀) step u l r s in
          (f, sets, goes)

    -- x is in no place behind i
    abbrev Off : ℕ → ℕ → Type 0
    Off t x = (j : ℕ) → i < j → S t j x → ⊥

    -- L8
    after-mark : (t x : ℕ) → T ≤ t → K t i → S (suc t) i x → Off (suc t) x
    after-mark t x a k s j l s' =
        let (j', e, w) = R.move⁻ t j x s' in
        let m = rank-le R t j' in
        R.mark-out t i j' x k (here t x a (marked-front t k) s) (omega arith) w

    -- the one place where meeting walks matter: no other state of set 0 steps to the next state of ξ
    module _ (ξ : ℕ → ℕ) (h : Path E S ξ) (alone : (t q : ℕ) → S t 0 q → E t q (ξ (suc t)) → q ≡ ξ t) where
      -- L9: from a state in no place behind i, over a transition that is not recurrent, into no place behind i
      off-step : (t : ℕ) → Off t (ξ t) → (M t (ξ t) (ξ (suc t)) → ⊥) → (j : ℕ) → i < j → U t j (ξ (suc t)) → ⊥
      off-step t off nm j l u = by (has-origin R t j (ξ (suc t)) u)
        where
          by : ((q : ℕ) × S t j q × E t q (ξ (suc t))) ⊎ ((q : ℕ) × S t 0 q × M t q (ξ (suc t))) → ⊥
          by (inl (q, s, e)) = off j l (rw (alone t q (inside R t j q s) e) at s)
          by (inr (q, s, m)) = nm (rw (alone t q s (R.sub t q (ξ (suc t)) m)) at m)

      off_next : (t : ℕ) → Off t (ξ t) → (M t (ξ t) (ξ (suc t)) → ⊥) → Off (suc t) (ξ (suc t))
      off_next t off nm j l s =
          let (j', e, w) = R.move⁻ t j (ξ (suc t)) s in
          let m = rank-le R t j' in
          off-step t off nm j' (omega arith) (R.kept t j' (ξ (suc t)) w)

      in_place : (A : ℕ) → T ≤ A → S A i (ξ A) → (u : ℕ) → A ≤ u → S u i (ξ u)
      in_place A a s u l = le_ind (λ v. S v i (ξ v)) s (λ v x y. flow v (ξ v) (ξ (suc v)) (omega arith) y (h.goes v)) u l

      -- the path takes a recurrent transition after t₀ and before u
      abbrev Takes : ℕ → ℕ → Type 0
      Takes t₀ u = (s : ℕ) × (t₀ < s) × (s < u) × M s (ξ s) (ξ (suc s))

      takes-or-off : (t₀ : ℕ) → Off (suc t₀) (ξ (suc t₀)) → (u : ℕ) → t₀ < u → Takes t₀ u ⊎ Off u (ξ u)
      takes-or-off t₀ off u l = le_ind (λ v. Takes t₀ v ⊎ Off v (ξ v)) (inr off) (λ v x y. by v x y (R.dec_m v (ξ v) (ξ (suc v)))) u l
        where
          by : (v : ℕ) → t₀ < v → Takes t₀ v ⊎ Off v (ξ v) → Dec (M v (ξ v) (ξ (suc v))) → Takes t₀ (suc v) ⊎ Off (suc v) (ξ (suc v))
          by v x (inl (s, b, d, m)) z = inl (s, b, omega arith, m)
          by v x (inr off) (yes m) = inl (v, x, omega arith, m)
          by v x (inr off) (no m) = inr (off_next v off m)

      -- L10: between two marks of place i the path takes a recurrent transition
      between : (t₀ u : ℕ) → T ≤ t₀ → t₀ < u → K t₀ i → K u i → S (suc t₀) i (ξ (suc t₀)) → Takes t₀ (suc u)
      between t₀ u a l k k' s = by (takes-or-off t₀ (after-mark t₀ (ξ (suc t₀)) a k s) u l) (R.dec_m u (ξ u) (ξ (suc u)))
        where
          by : Takes t₀ u ⊎ Off u (ξ u) → Dec (M u (ξ u) (ξ (suc u))) → Takes t₀ (suc u)
          by (inl (s, b, d, m)) z = (s, b, omega arith, m)
          by (inr off) (yes m) = (u, l, omega arith, m)
          by (inr off) (no m) =
              let w = here u (ξ (suc u)) (omega arith) (marked-front u k') (in_place (suc t₀) (omega arith) s (suc u) (omega arith)) in
              let (j, b, y) = R.mark-in u i (ξ (suc u)) k' w in
              absurd (off-step u off m j b y)

      -- L11: so a path through place i takes them without end
      pub marks : ((t : ℕ) → (u : ℕ) × (t ≤ u) × K u i) → (A : ℕ) → T ≤ A → S A i (ξ A) → Often M ξ
      marks often A a s t =
          let (u, l, k) = often (A + t) in
          let (v, m, k') = often (suc u) in
          let (w, x, y, z) = between u v (omega arith) (omega arith) k k' (in_place A a s (suc u) (omega arith)) in
          (w, omega arith, z)
