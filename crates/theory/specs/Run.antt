-- docs/THEORY.md, section 0: what one endless run of the tuples is, and nothing of letters, words, masks or lists. E t q r says that the step from
-- time t to time t + 1 has a transition from q to r, and M t q r that this transition is recurrent (for a sheet, by its edition's rule: that r is
-- a must-recur state, or that the transition is marked).
use Rattle.std.specs.Prelude.{ℕ, suc, ◌+◌, ◌*◌, ◌≤◌, ◌<◌, ◌≡◌, ◌⊎◌}

abbrev pub Some : (ℕ → Type 0) → Type 0
Some X = (r : ℕ) × X r

abbrev pub None : (ℕ → Type 0) → Type 0
None X = (r : ℕ) → X r → ⊥

-- S t i q: q is in the set at place i after t steps. U t i q: q is in place i in step t before the marking pass; W t i q: after the
-- pass, before closing up. K t i: place i is marked in step t. p t: the count of non-empty sets. col t: the colour of step t, which
-- is the colour of tuple t + 1. rank t j: the count of non-empty places below j after the pass.
pub record Run (n : ℕ) (E M S U W : ℕ → ℕ → ℕ → Type 0) (K : ℕ → ℕ → Type 0) (p col : ℕ → ℕ) (rank : ℕ → ℕ → ℕ) : Type 0 where
  pub sub : (t q r : ℕ) → M t q r → E t q r
  pub dec_m : (t q r : ℕ) → Dec (M t q r)
  -- the tuple: the non-empty sets come first, at most n, of states below n
  pub first : (k q : ℕ) → S 0 k q → k ≡ 0
  pub front : (t j q : ℕ) → S t j q → j < p t
  pub full : (t j : ℕ) → j < p t → Some (S t j)
  pub room : (t : ℕ) → p t ≤ n
  pub state : (t j q : ℕ) → S t j q → q < n
  -- points 1 and 2: the successors of each set, and at place p the new set
  pub old : (t j q r : ℕ) → S t j q → E t q r → U t j r
  pub old⁻ : (t j r : ℕ) → j < p t → U t j r → (q : ℕ) × S t j q × E t q r
  pub new : (t q r : ℕ) → S t 0 q → M t q r → U t (p t) r
  pub new⁻ : (t r : ℕ) → U t (p t) r → (q : ℕ) × S t 0 q × M t q r
  pub none : (t j r : ℕ) → U t j r → j ≤ p t
  -- point 3: a state leaves a place only if an earlier marked place keeps it; each member of a marked place lies in a later one before
  -- the pass, and in none after it
  pub kept : (t j r : ℕ) → W t j r → U t j r
  pub gone : (t j r : ℕ) → U t j r → W t j r ⊎ ((i : ℕ) × (i < j) × K t i × W t i r)
  pub mark-some : (t i : ℕ) → K t i → Some (W t i)
  pub mark-in : (t i r : ℕ) → K t i → W t i r → (j : ℕ) × (i < j) × U t j r
  pub mark-out : (t i j r : ℕ) → K t i → W t i r → i < j → W t j r → ⊥
  pub dec : (t j : ℕ) → Some (W t j) ⊎ None (W t j)
  -- point 5: the set of place j goes to place rank t j
  pub rank-zero : (t : ℕ) → rank t 0 ≡ 0
  pub rank-some : (t j : ℕ) → Some (W t j) → rank t (suc j) ≡ suc (rank t j)
  pub rank-none : (t j : ℕ) → None (W t j) → rank t (suc j) ≡ rank t j
  pub move : (t j r : ℕ) → W t j r → S (suc t) (rank t j) r
  pub move⁻ : (t k r : ℕ) → S (suc t) k r → (j : ℕ) × (k ≡ rank t j) × W t j r
  -- point 4
  pub col-mark : (t i : ℕ) → K t i → col t ≤ 2 * i + 2
  pub col-gone : (t i : ℕ) → i < p t → None (W t i) → col t ≤ 2 * i + 1
  pub col-pos : (t : ℕ) → 1 ≤ col t
  pub col-top : (t : ℕ) → col t ≤ 2 * n + 1
  pub col-even : (t i : ℕ) → col t ≡ 2 * i + 2 → K t i
  pub col-odd : (t i : ℕ) → col t ≡ 2 * i + 1 → (i ≡ n) ⊎ (None (W t i) × ((i < p t) ⊎ (i ≡ 0)))

-- an endless path of transitions that starts in set 0: the readings of a sheet
pub record Path (E S : ℕ → ℕ → ℕ → Type 0) (ξ : ℕ → ℕ) : Type 0 where
  pub starts : S 0 0 (ξ 0)
  pub goes : (t : ℕ) → E t (ξ t) (ξ (suc t))

-- it takes recurrent transitions without end
abbrev pub Often : (ℕ → ℕ → ℕ → Type 0) → (ℕ → ℕ) → Type 0
Often M ξ = (t : ℕ) → (u : ℕ) × (t < u) × M u (ξ u) (ξ (suc u))

-- what freedom from meeting walks grants: no other state of set 0 steps to the path's next state
abbrev pub Alone : (E S : ℕ → ℕ → ℕ → Type 0) → Type 0
Alone E S = (ξ : ℕ → ℕ) → Path E S ξ → (t q : ℕ) → S t 0 q → E t q (ξ (suc t)) → q ≡ ξ t

-- what section 3 grants: a path that is in place i at some time from T on, if no colour from T on is below 2i + 2 and place i is marked
-- again and again
abbrev pub Through : (E S : ℕ → ℕ → ℕ → Type 0) (K : ℕ → ℕ → Type 0) (col : ℕ → ℕ) → Type 0
Through E S K col =
    (i T : ℕ) → ((t : ℕ) → T ≤ t → 2 * i + 2 ≤ col t) → ((t : ℕ) → (u : ℕ) × (t ≤ u) × K u i)
    → (ξ : ℕ → ℕ) × (A : ℕ) × Path E S ξ × (T ≤ A) × S A i (ξ A)

-- a colour that is entered without end: from every time on it is entered again
abbrev pub EnteredWithoutEnd : (ℕ → ℕ) → ℕ → Type 0
EnteredWithoutEnd col c = (t : ℕ) → (u : ℕ) × (t ≤ u) × (col u ≡ c)

-- c is the least colour entered without end
pub record Least (col : ℕ → ℕ) (c : ℕ) : Type 0 where
  pub often : (t : ℕ) → (u : ℕ) × (t ≤ u) × (col u ≡ c)
  pub from : ℕ
  pub low : (t : ℕ) → from ≤ t → c ≤ col t
