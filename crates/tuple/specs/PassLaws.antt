-- The marking pass: facts F3 to F6 of the theory. A place is never touched after its own turn. Assumes nothing.
use Rattle.std.specs.Prelude.{ℕ, zero, suc, ◌≤◌, ◌<◌, ◌≡◌, refl, ◌⊎◌, Bool, true, false, not, ◌&&◌, List, [], ◌∷◌, T, length, get_or}
use Rattle.std.proofs.Common.{sym, ap, inl, inr, arith}
use Rattle.std.proofs.Math.Dec.{not_T}
use Rattle.std.proofs.lemmas.List.{length-map}
use Rattle.sets.specs.Sets.{Member, minus_of, is_within, is_empty}
use Rattle.sets.specs.SetLaws.{member-dec, no_member, union-in, union_left, union_right, minus-left, minus-not, minus-of}
use Rattle.sets.specs.TestLaws.{some_of, none_of, within-is, outside}
use Rattle.theory.specs.Run.{Some}
use Rattle.tuple.specs.Step.{place_set, union_all, is_marked, minus_each, removed, Place, place, turns, set_at_place, pass}

-- state r is in the set at place j, before the pass and after it; place j is marked
abbrev pub In : List ℕ → ℕ → ℕ → Type 0
In l j r = Member (place_set l j) r

abbrev pub After : List Place → ℕ → ℕ → Type 0
After w j r = Member (set_at_place w j) r

abbrev pub Marked : List Place → ℕ → Type 0
Marked w j = T (get_or w j (place 0 false)).mark

-- a place with a member is one of the list
pub front : (l : List ℕ) (j r : ℕ) → In l j r → j < length l
front [] j r h = absurd (no_member r h)
front (x ∷ l) zero r h = omega arith
front (x ∷ l) (suc j) r h = let a = front l j r h in omega arith

-- Tests

pub and_l : (a b : Bool) → T (a && b) → T a
and_l true b h = tt
and_l false b h = h

pub and_r : (a b : Bool) → T (a && b) → T b
and_r true b h = h
and_r false b h = absurd h

pub and_i : (a b : Bool) → T a → T b → T (a && b)
and_i true b h g = g
and_i false b h g = h

pub two : (b : Bool) → T b ⊎ T (not b)
two true = inl tt
two false = inr tt

-- The members of later places, and what a turn leaves of them

union-all-in : (l : List ℕ) (r : ℕ) → Member (union_all l) r → (j : ℕ) × In l j r
unfolding union_all
union-all-in [] r h = absurd (no_member r h)
union-all-in (x ∷ l) r h = by (union-in x (union_all l) r h) (union-all-in l r)
  where
    by : Member x r ⊎ Member (union_all l) r → (Member (union_all l) r → (j : ℕ) × In l j r) → (j : ℕ) × In (x ∷ l) j r
    by (inl a) ih = (0, a)
    by (inr a) ih = let (j, b) = ih a in (suc j, b)

union-all-of : (l : List ℕ) (j r : ℕ) → In l j r → Member (union_all l) r
unfolding union_all
union-all-of [] j r h = absurd (no_member r h)
union-all-of (x ∷ l) zero r h = union_left x (union_all l) r h
union-all-of (x ∷ l) (suc j) r h = union_right x (union_all l) r (union-all-of l j r h)

minus-in : (x : ℕ) (l : List ℕ) (j r : ℕ) → In (minus_each x l) j r → In l j r × (Member x r → ⊥)
minus-in x [] j r h = absurd (no_member r h)
minus-in x (y ∷ l) zero r h = (minus-left y x r h, minus-not y x r h)
minus-in x (y ∷ l) (suc j) r h = minus-in x l j r h

minus-keep : (x : ℕ) (l : List ℕ) (j r : ℕ) → In l j r → (Member x r → ⊥) → In (minus_each x l) j r
minus-keep x [] j r h g = h
minus-keep x (y ∷ l) zero r h g = minus-of y x r h g
minus-keep x (y ∷ l) (suc j) r h g = minus-keep x l j r h g

removed-in : (b : Bool) (x : ℕ) (l : List ℕ) (j r : ℕ) → In (removed b x l) j r → In l j r
unfolding removed
removed-in true x l j r h = (minus-in x l j r h).0
removed-in false x l j r h = h

removed-out : (b : Bool) (x : ℕ) (l : List ℕ) (j r : ℕ) → T b → In (removed b x l) j r → Member x r → ⊥
unfolding removed
removed-out true x l j r t h = (minus-in x l j r h).1
removed-out false x l j r t h = absurd t

removed-keep : (b : Bool) (x : ℕ) (l : List ℕ) (j r : ℕ) → In l j r → In (removed b x l) j r ⊎ (T b × Member x r)
unfolding removed
removed-keep true x l j r h = by (member-dec x r)
  where
    by : Dec (Member x r) → In (minus_each x l) j r ⊎ (Unit {0} × Member x r)
    by (yes a) = inr (tt, a)
    by (no a) = inl (minus-keep x l j r h a)
removed-keep false x l j r h = inl h

pub removed-length : (b : Bool) (x : ℕ) (l : List ℕ) → length (removed b x l) ≡ length l
unfolding removed
removed-length true x l = length-map l (λ y. minus_of y x)
removed-length false x l = refl

-- the places behind x after its turn
abbrev rest : ℕ → List ℕ → List ℕ
rest x l = removed (is_marked x (union_all l)) x l

rest_in : (x : ℕ) (l : List ℕ) (j r : ℕ) → In (rest x l) j r → In l j r
rest_in x l = removed-in (is_marked x (union_all l)) x l

rest_out : (x : ℕ) (l : List ℕ) (j r : ℕ) → T (is_marked x (union_all l)) → In (rest x l) j r → Member x r → ⊥
rest_out x l = removed-out (is_marked x (union_all l)) x l

rest-keep : (x : ℕ) (l : List ℕ) (j r : ℕ) → In l j r → In (rest x l) j r ⊎ (T (is_marked x (union_all l)) × Member x r)
rest-keep x l = removed-keep (is_marked x (union_all l)) x l

rest-length : (x : ℕ) (l : List ℕ) → length (rest x l) ≡ length l
rest-length x l = removed-length (is_marked x (union_all l)) x l

-- The pass, place by place

pub pass-cons : (x : ℕ) (l : List ℕ) → pass (x ∷ l) ≡ place x (is_marked x (union_all l)) ∷ pass (removed (is_marked x (union_all l)) x l)
unfolding pass turns
pass-cons x l = ap (λ (k : ℕ). place x (is_marked x (union_all l)) ∷ turns k (rest x l)) (sym (rest-length x l))

-- F3: the pass adds nothing
pub kept : (k : ℕ) (l : List ℕ) (j r : ℕ) → After (turns k l) j r → In l j r
unfolding turns
kept zero l j r h = absurd (no_member r h)
kept (suc k) [] j r h = h
kept (suc k) (x ∷ l) zero r h = h
kept (suc k) (x ∷ l) (suc j) r h = rest_in x l j r (kept k (rest x l) j r h)

-- F4: a state leaves a place only if an earlier marked place keeps it
pub gone : (k : ℕ) (l : List ℕ) → length l ≤ k → (j r : ℕ) → In l j r
    → After (turns k l) j r ⊎ ((i : ℕ) × (i < j) × Marked (turns k l) i × After (turns k l) i r)
unfolding turns
gone zero [] f j r h = inl h
gone zero (x ∷ l) f j r h = absurd (omega arith)
gone (suc k) [] f j r h = inl h
gone (suc k) (x ∷ l) f zero r h = inl h
gone (suc k) (x ∷ l) f (suc j) r h = by (rest-keep x l j r h) (λ a. gone k (rest x l) (let e = rest-length x l in omega arith) j r a)
  where
    by : In (rest x l) j r ⊎ (T (is_marked x (union_all l)) × Member x r)
        → (In (rest x l) j r → After (turns k (rest x l)) j r ⊎ ((i : ℕ) × (i < j) × Marked (turns k (rest x l)) i × After (turns k (rest x l)) i r))
        → After (turns (suc k) (x ∷ l)) (suc j) r ⊎ ((i : ℕ) × (i < suc j) × Marked (turns (suc k) (x ∷ l)) i × After (turns (suc k) (x ∷ l)) i r)
    by (inr (a, b)) ih = inr (0, omega arith, a, b)
    by (inl a) ih = by2 (ih a)
      where
        by2 : After (turns k (rest x l)) j r ⊎ ((i : ℕ) × (i < j) × Marked (turns k (rest x l)) i × After (turns k (rest x l)) i r)
            → After (turns (suc k) (x ∷ l)) (suc j) r ⊎ ((i : ℕ) × (i < suc j) × Marked (turns (suc k) (x ∷ l)) i × After (turns (suc k) (x ∷ l)) i r)
        by2 (inl b) = inl b
        by2 (inr (i, m, b, d)) = inr (suc i, omega arith, b, d)

-- F5: a marked place is non-empty, its members were in later places, and are there no more
pub mark-some : (k : ℕ) (l : List ℕ) (i : ℕ) → Marked (turns k l) i → Some (After (turns k l) i)
unfolding turns is_marked
mark-some zero l i h = absurd h
mark-some (suc k) [] i h = absurd h
mark-some (suc k) (x ∷ l) zero h = some_of x (and_l (not (is_empty x)) (is_within x (union_all l)) h)
mark-some (suc k) (x ∷ l) (suc i) h = mark-some k (rest x l) i h

pub mark-in : (k : ℕ) (l : List ℕ) (i r : ℕ) → Marked (turns k l) i → After (turns k l) i r → (j : ℕ) × (i < j) × In l j r
unfolding turns is_marked
mark-in zero l i r h w = absurd h
mark-in (suc k) [] i r h w = absurd h
mark-in (suc k) (x ∷ l) zero r h w =
    let (j, b) = union-all-in l r (within-is x (union_all l) (and_r (not (is_empty x)) (is_within x (union_all l)) h) r w) in (suc j, omega arith, b)
mark-in (suc k) (x ∷ l) (suc i) r h w = let (j, a, b) = mark-in k (rest x l) i r h w in (suc j, omega arith, rest_in x l j r b)

pub mark-out : (k : ℕ) (l : List ℕ) (i j r : ℕ) → Marked (turns k l) i → After (turns k l) i r → i < j → After (turns k l) j r → ⊥
unfolding turns
mark-out zero l i j r h w m v = absurd h
mark-out (suc k) [] i j r h w m v = absurd h
mark-out (suc k) (x ∷ l) zero zero r h w m v = omega arith
mark-out (suc k) (x ∷ l) zero (suc j) r h w m v = rest_out x l j r h (kept k (rest x l) j r v) w
mark-out (suc k) (x ∷ l) (suc i) zero r h w m v = omega arith
mark-out (suc k) (x ∷ l) (suc i) (suc j) r h w m v = mark-out k (rest x l) i j r h w (omega arith) v

-- F6: every non-empty set has a member in no later one
pub own : (k : ℕ) (l : List ℕ) (i r : ℕ) → After (turns k l) i r
    → (x : ℕ) × After (turns k l) i x × ((j : ℕ) → i < j → After (turns k l) j x → ⊥)
unfolding turns is_marked
own zero l i r w = absurd (no_member r w)
own (suc k) [] i r w = absurd (no_member r w)
own (suc k) (x ∷ l) (suc i) r w = let (y, a, b) = own k (rest x l) i r w in (y, a, up y b)
  where
    up : (y : ℕ) → ((j : ℕ) → i < j → After (turns k (rest x l)) j y → ⊥) → (j : ℕ) → suc i < j → After (turns (suc k) (x ∷ l)) j y → ⊥
    up y b zero m v = omega arith
    up y b (suc j) m v = b j (omega arith) v
own (suc k) (x ∷ l) zero r w = by (two (is_within x (union_all l)))
  where
    full : T (not (is_empty x))
    full = not_T (is_empty x) (λ e. none_of x e r w)

    priv : (y : ℕ) → ((j : ℕ) → In (rest x l) j y → ⊥)
        → (j : ℕ) → 0 < j → After (place x (is_marked x (union_all l)) ∷ turns k (rest x l)) j y → ⊥
    priv y f zero m v = omega arith
    priv y f (suc j) m v = f j (kept k (rest x l) j y v)

    by : T (is_within x (union_all l)) ⊎ T (not (is_within x (union_all l)))
        → (y : ℕ) × Member x y × ((j : ℕ) → 0 < j → After (place x (is_marked x (union_all l)) ∷ turns k (rest x l)) j y → ⊥)
    by (inl e) = (r, w, priv r (λ j v. rest_out x l j r (and_i (not (is_empty x)) (is_within x (union_all l)) full e) v w))
    by (inr e) = let (y, a, b) = outside x (union_all l) e in (y, a, priv y (λ j v. b (union-all-of l j y (rest_in x l j y v))))

pub turns-length : (k : ℕ) (l : List ℕ) → length l ≤ k → length (turns k l) ≡ length l
unfolding turns
turns-length zero [] h = refl
turns-length zero (x ∷ l) h = absurd (omega arith)
turns-length (suc k) [] h = refl
turns-length (suc k) (x ∷ l) h = let b = rest-length x l in let a = turns-length k (rest x l) (omega arith) in omega arith
