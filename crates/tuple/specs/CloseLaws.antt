-- Closing up: facts F7 and F8 of the theory. The set of place j goes to the place that counts the non-empty ones before it. Assumes nothing.
use Rattle.std.specs.Prelude.{ℕ, zero, suc, ◌≤◌, ◌<◌, ◌≡◌, refl, ◌⊎◌, Bool, true, false, not, List, [], ◌∷◌, T, length}
use Rattle.std.proofs.Common.{◌∙◌, ap, inl, inr, arith}
use Rattle.std.proofs.Math.Decide.{dec_le, dec_lt}
use Rattle.sets.specs.Sets.{Member, is_empty}
use Rattle.sets.specs.SetLaws.{no_member}
use Rattle.sets.specs.TestLaws.{some_of, none_of, empty_of, full-of}
use Rattle.finite.specs.Finite.{pigeon-rel}
use Rattle.theory.specs.Run.{Some, None}
use Rattle.theory.proofs.Basic.{rank_mono}
use Rattle.tuple.specs.Step.{unless_empty, closed, close_up, Place, set_at_place, turns}
use Rattle.tuple.specs.PassLaws.{In, After, two, kept, own}

-- one more, unless the place is empty
unfoldable pub bump : Bool → ℕ → ℕ
bump true c = c
bump false c = suc c

bump-suc : (b : Bool) (c : ℕ) → bump b (suc c) ≡ suc (bump b c)
unfolding bump
bump-suc true c = refl
bump-suc false c = refl

-- the count of non-empty places below j
unfoldable pub rank : ℕ → List Place → ℕ
rank zero w = zero
rank (suc j) [] = zero
rank (suc j) (x ∷ w) = bump (is_empty x.states) (rank j w)

pub dec-place : (w : List Place) (j : ℕ) → Some (After w j) ⊎ None (After w j)
dec-place w j = by (two (is_empty (set_at_place w j)))
  where
    by : T (is_empty (set_at_place w j)) ⊎ T (not (is_empty (set_at_place w j))) → Some (After w j) ⊎ None (After w j)
    by (inl e) = inr (none_of (set_at_place w j) e)
    by (inr e) = inl (some_of (set_at_place w j) e)

pub rank-some : (j : ℕ) (w : List Place) → Some (After w j) → rank (suc j) w ≡ suc (rank j w)
unfolding rank bump
rank-some j [] h = absurd (no_member h.0 h.1)
rank-some zero (x ∷ w) h = rw (full-of x.states h)
rank-some (suc j) (x ∷ w) h = ap (bump (is_empty x.states)) (rank-some j w h) ∙ bump-suc (is_empty x.states) (rank j w)

pub rank-none : (j : ℕ) (w : List Place) → None (After w j) → rank (suc j) w ≡ rank j w
unfolding rank bump
rank-none zero [] h = refl
rank-none (suc j) [] h = refl
rank-none zero (x ∷ w) h = rw (empty_of x.states h)
rank-none (suc j) (x ∷ w) h = ap (bump (is_empty x.states)) (rank-none j w h)

cons-bump : (b : Bool) (x : ℕ) (l : List ℕ) (k r : ℕ) → In l k r → In (unless_empty b x l) (bump b k) r
unfolding bump unless_empty
cons-bump true x l k r h = h
cons-bump false x l k r h = h

uncons : (b : Bool) (x : ℕ) (l : List ℕ) (k r : ℕ) → In (unless_empty b x l) k r
    → ((k ≡ 0) × Member x r) ⊎ ((k' : ℕ) × (k ≡ bump b k') × In l k' r)
unfolding bump unless_empty
uncons true x l k r h = inr (k, refl, h)
uncons false x l zero r h = inl (refl, h)
uncons false x l (suc k) r h = inr (k, refl, h)

pub move : (w : List Place) (j r : ℕ) → After w j r → In (close_up w) (rank j w) r
unfolding close_up closed rank unless_empty
move [] j r h = h
move (x ∷ w) zero r h = rw (full-of x.states (r, h)) h
move (x ∷ w) (suc j) r h = cons-bump (is_empty x.states) x.states (close_up w) (rank j w) r (move w j r h)

pub move⁻ : (w : List Place) (k r : ℕ) → In (close_up w) k r → (j : ℕ) × (k ≡ rank j w) × After w j r
unfolding close_up closed rank
move⁻ [] k r h = absurd (no_member r h)
move⁻ (x ∷ w) k r h = by (uncons (is_empty x.states) x.states (close_up w) k r h) (move⁻ w)
  where
    by : ((k ≡ 0) × Member x.states r) ⊎ ((k' : ℕ) × (k ≡ bump (is_empty x.states) k') × In (close_up w) k' r)
        → ((k r : ℕ) → In (close_up w) k r → (j : ℕ) × (k ≡ rank j w) × After w j r)
        → (j : ℕ) × (k ≡ rank j (x ∷ w)) × After (x ∷ w) j r
    by (inl (e, a)) ih = (0, e, a)
    by (inr (k', e, a)) ih = let (j, e', a') = ih k' r a in (suc j, e ∙ ap (bump (is_empty x.states)) e', a')

cons-full : (b : Bool) (x : ℕ) (l : List ℕ) → (T (not b) → Some (Member x)) → ((j : ℕ) → j < length l → Some (In l j)) → (j : ℕ)
    → j < length (unless_empty b x l) → Some (In (unless_empty b x l) j)
unfolding unless_empty
cons-full true x l f g j h = g j h
cons-full false x l f g zero h = f tt
cons-full false x l f g (suc j) h = g j (omega arith)

pub full : (w : List Place) (j : ℕ) → j < length (close_up w) → Some (In (close_up w) j)
unfolding close_up closed
full [] j h = absurd (omega arith)
full (x ∷ w) j h = cons-full (is_empty x.states) x.states (close_up w) (some_of x.states) (full w) j h

cons-length : (b : Bool) (x : ℕ) (l : List ℕ) → length (unless_empty b x l) ≤ suc (length l)
unfolding unless_empty
cons-length true x l = omega arith
cons-length false x l = omega arith

pub close_up-length : (w : List Place) → length (close_up w) ≤ length w
unfolding close_up closed
close_up-length [] = omega arith
close_up-length (x ∷ w) = let a = close_up-length w in let b = cons-length (is_empty x.states) x.states (close_up w) in omega arith

-- F8: at most n sets are left. Each has a member of its own, and there are n states.
pub room : (n k : ℕ) (l : List ℕ) → ((j r : ℕ) → In l j r → r < n) → length (close_up (turns k l)) ≤ n
room n k l small = by (dec_le (length (close_up (turns k l))) n)
  where
    P : ℕ → ℕ → Type 0
    P c r = (j : ℕ) × (c ≡ rank j (turns k l)) × After (turns k l) j r × ((j' : ℕ) → j < j' → After (turns k l) j' r → ⊥)

    one : (c : ℕ) → c < length (close_up (turns k l)) → (r : ℕ) × (r < n) × P c r
    one c m =
        let (r, h) = full (turns k l) c m in
        let (j, e, a) = move⁻ (turns k l) c r h in
        let (x, b, d) = own k l j r a in
        (x, small j x (kept k l j x b), (j, e, b, d))

    clash : (a b r : ℕ) → a < b → P a r → P b r → ⊥
    clash a b r m (i, e, x, y) (j, f, z, v) = by2 (dec_lt i j)
      where
        by2 : Dec (i < j) → ⊥
        by2 (yes q) = y j q z
        by2 (no q) =
            let w = turns k l in
            let s = rank_mono (dec-place w) (λ j. rank-some j w) (λ j. rank-none j w) j i (omega arith) in
            omega arith

    by : Dec (length (close_up (turns k l)) ≤ n) → length (close_up (turns k l)) ≤ n
    by (yes m) = m
    by (no m) = let (a, b, r, x, y, u, v) = pigeon-rel n P (λ c q. one c (omega arith)) in absurd (clash a b r x u v)
