-- What is found is the numbering: once every step of its tuples is taken, `found` lists each reachable tuple once, as found. Assumes nothing.
use Rattle.std.specs.Prelude.{ℕ, zero, suc, ◌/◌, ◌%◌, ◌≤◌, ◌<◌, ◌≡◌, ◌&&◌, List, [], ◌∷◌, ◌++◌, ◌⊎◌, eqb, ltb, length}
use Rattle.std.proofs.Math.Path.{refl}
use Rattle.std.proofs.Common.{sym, ap, subst, ◌∙◌, inl, inr, arith, lt-ltb, le-ltb, eq-eqb, eqb-true}
use Rattle.std.proofs.Math.Bool.{and-eq-true_iff}
use Rattle.std.proofs.Math.Decide.{ℕ_discrete, dec_lt}
use Rattle.std.proofs.Math.ListN.{get_or-append}
use Rattle.std.proofs.Math.Seq.{get_or-append_seam}
use Rattle.lists.specs.AppendLaws.{length_more}
use Rattle.lists.specs.Search.{same, IsFirst}
use Rattle.lists.specs.SearchLaws.{same-is, same_self, Tells, first_found}
use Rattle.lists.specs.Choice.{choose}
use Rattle.automaton.specs.Automaton.{Automaton}
use Rattle.tuple.specs.Step.{Tuple, first, next}
use Rattle.numbering.specs.Numbering.{tuple_at, Distinct, entered, FoundBy, WayFrom, FirstFound}
use Rattle.numbering.specs.Explore.{same_tuple, tuple_number, add_new, step, found}

-- EQUAL TUPLES

tells-tuple : (u : Tuple) → Tells (same_tuple u) u
unfolding same_tuple
tells-tuple u = record {
  of = simp (same_self u.sets) (eq-eqb u.colour u.colour refl);
  only = λ v e.
      (let (s, c) = (and-eq-true_iff (same u.sets v.sets) (eqb u.colour v.colour)).0 e in
      let sets = sym (same-is u.sets v.sets s) in
      let colour = sym (eqb-true u.colour v.colour c) in
      λ i. record { sets = sets i; colour = colour i });
}

-- u is tuple number i of a list
abbrev pub Listed : Automaton → List Tuple → Tuple → Type 0
Listed A ts u = (i : ℕ) × (i < length ts) × (tuple_at A ts i ≡ u)

-- the number of a tuple: it is listed there, or nowhere
pub tuple-number-is : (A : Automaton) (u : Tuple) (ts : List Tuple)
    → ((tuple_number u ts < length ts) × (tuple_at A ts (tuple_number u ts) ≡ u)) ⊎ ((length ts ≤ tuple_number u ts) × (Listed A ts u → ⊥))
tuple-number-is A u ts = by (first_found (first A) u (same_tuple u) (tells-tuple u) ts) (dec_lt (tuple_number u ts) (length ts))
  where
    by : IsFirst (first A) ts u (tuple_number u ts) → Dec (tuple_number u ts < length ts)
        → ((tuple_number u ts < length ts) × (tuple_at A ts (tuple_number u ts) ≡ u)) ⊎ ((length ts ≤ tuple_number u ts) × (Listed A ts u → ⊥))
    by f (yes h) = inl (h, f.is h)
    by f (no h) = inr (omega arith, λ (i, l, e). f.first i (omega arith) e)

-- ONE STEP

-- step c takes the tuples ts to us
pub data Stepped (A : Automaton) (c : ℕ) (ts us : List Tuple) : Type 0 where
  -- there is no such tuple or no such letter
  skip : (c / 8 < length ts → c % 8 < A.k → ⊥) → us ≡ ts → Stepped A c ts us
  -- the tuple that it enters is listed
  old : c / 8 < length ts → c % 8 < A.k → Listed A ts (entered A ts c) → us ≡ ts → Stepped A c ts us
  -- or is new, and comes behind the others
  new : c / 8 < length ts → c % 8 < A.k → (Listed A ts (entered A ts c) → ⊥) → us ≡ ts ++ (entered A ts c ∷ []) → Stepped A c ts us

pub step-skips : (A : Automaton) (c : ℕ) (ts : List Tuple) → (c / 8 < length ts → c % 8 < A.k → ⊥) → step A c ts ≡ ts
unfolding step
step-skips A c ts f = by (dec_lt (c / 8) (length ts)) (dec_lt (c % 8) A.k)
  where
    by : Dec (c / 8 < length ts) → Dec (c % 8 < A.k) → choose (ltb (c / 8) (length ts) && ltb (c % 8) A.k) (add_new ts (entered A ts c)) ts ≡ ts
    by (yes h) (yes l) = absurd (f h l)
    by (yes h) (no l) = rw (lt-ltb (c / 8) (length ts) h, le-ltb (c % 8) A.k (omega arith))
    by (no h) l = rw (le-ltb (c / 8) (length ts) (omega arith))

step-adds : (A : Automaton) (c : ℕ) (ts : List Tuple) → c / 8 < length ts → c % 8 < A.k → step A c ts ≡ add_new ts (entered A ts c)
unfolding step
step-adds A c ts h l = rw (lt-ltb (c / 8) (length ts) h, lt-ltb (c % 8) A.k l)

pub stepped : (A : Automaton) (c : ℕ) (ts : List Tuple) → Stepped A c ts (step A c ts)
unfolding add_new
stepped A c ts = by (dec_lt (c / 8) (length ts)) (dec_lt (c % 8) A.k) (tuple-number-is A (entered A ts c) ts)
  where
    u : Tuple
    u = entered A ts c

    by : Dec (c / 8 < length ts) → Dec (c % 8 < A.k)
        → ((tuple_number u ts < length ts) × (tuple_at A ts (tuple_number u ts) ≡ u)) ⊎ ((length ts ≤ tuple_number u ts) × (Listed A ts u → ⊥))
        → Stepped A c ts (step A c ts)
    by (no h) d r = Stepped.skip (λ g l. h g) (step-skips A c ts (λ g l. h g))
    by (yes h) (no l) r = Stepped.skip (λ h. l) (step-skips A c ts (λ h. l))
    by (yes h) (yes l) (inl (g, e)) = Stepped.old h l (tuple_number u ts, g, e) (step-adds A c ts h l ∙ rw (lt-ltb (tuple_number u ts) (length ts) g))
    by (yes h) (yes l) (inr (g, f)) = Stepped.new h l f (step-adds A c ts h l ∙ rw (le-ltb (tuple_number u ts) (length ts) g))

pub step_keeps : (A : Automaton) (c : ℕ) (ts : List Tuple) → Listed A ts (entered A ts c) → step A c ts ≡ ts
step_keeps A c ts g = by (stepped A c ts)
  where
    by : Stepped A c ts (step A c ts) → step A c ts ≡ ts
    by (Stepped.skip f e) = e
    by (Stepped.old h l k e) = e
    by (Stepped.new h l f e) = absurd (f g)

pub step-finds : (A : Automaton) (c : ℕ) (ts : List Tuple) → c / 8 < length ts → c % 8 < A.k → (Listed A ts (entered A ts c) → ⊥) → step A c ts ≡ ts ++ (entered A ts c ∷ [])
step-finds A c ts h l g = by (stepped A c ts)
  where
    by : Stepped A c ts (step A c ts) → step A c ts ≡ ts ++ (entered A ts c ∷ [])
    by (Stepped.skip f e) = absurd (f h l)
    by (Stepped.old j k f e) = absurd (g f)
    by (Stepped.new j k f e) = e

-- a way back by other words for the same finding step
pub way-mapped : {P Q : ℕ → Type 0} {t from letter : ℕ} → ((c : ℕ) → P c → Q c) → WayFrom P t from letter → WayFrom Q t from letter
way-mapped f w = record {
  first = w.first;
  found = λ k. let (c, p, from, letter) = w.found k in (c, f c p, from, letter);
}

-- and one finding step gives one way back
pub way-once : {P Q : ℕ → Type 0} {t from letter from' letter' : ℕ} → ((c d : ℕ) → P c → Q d → c ≡ d) → WayFrom P t from letter → WayFrom Q t from' letter'
    → (from ≡ from') × (letter ≡ letter')
way-once {t = t} {from} {letter} {from'} {letter'} same v w = by (ℕ_discrete t 0)
  where
    by : Dec (t ≡ 0) → (from ≡ from') × (letter ≡ letter')
    by (yes e) =
        let (a, b) = v.first e in
        let (c, d) = w.first e in
        (a ∙ sym c, b ∙ sym d)
    by (no e) =
        let (c, p, a, b) = v.found (omega arith) in
        let (d, q, x, y) = w.found (omega arith) in
        let z = same c d p q in
        (a ∙ ap (λ (i : ℕ). i / 8) z ∙ sym x, b ∙ ap (λ (i : ℕ). i % 8) z ∙ sym y)

-- LISTS THAT BEGIN ALIKE

-- the first m tuples of ts and us are the same
abbrev pub Agree : Automaton → ℕ → List Tuple → List Tuple → Type 0
Agree A m ts us = (i : ℕ) → i < m → tuple_at A ts i ≡ tuple_at A us i

pub agree-more : (A : Automaton) (ts : List Tuple) (u : Tuple) → Agree A (length ts) ts (ts ++ (u ∷ []))
agree-more A ts u i h = sym (get_or-append ts (u ∷ []) (first A) i h)

pub last-is : (A : Automaton) (ts : List Tuple) (u : Tuple) → tuple_at A (ts ++ (u ∷ [])) (length ts) ≡ u
last-is A ts u = get_or-append_seam ts u [] (first A)

module _ (A : Automaton) (m : ℕ) (ts us : List Tuple) (a : Agree A m ts us) where
  pub enters-alike : (d : ℕ) → d / 8 < m → entered A ts d ≡ entered A us d
  enters-alike d h = ap (next A (d % 8)) (a (d / 8) h)

  -- a finding step stays one
  found_alike : (i c : ℕ) → i < m → FoundBy A ts i c → FoundBy A us i c
  found_alike i c h f =
      let g = f.from in
      record {
        from = g;
        letter = f.letter;
        enters = sym (enters-alike c (omega arith)) ∙ f.enters ∙ a i h;
        earliest = λ d k l e. f.earliest d k l (enters-alike d (omega arith) ∙ e ∙ sym (a i h));
      }

  -- and a way back
  pub way-alike : {i from letter : ℕ} → i < m → FirstFound A ts i from letter → FirstFound A us i from letter
  way-alike {i} h = way-mapped (λ c. found_alike i c h)

-- a tuple has one finding step
pub found-once : (A : Automaton) (ts : List Tuple) (i c d : ℕ) → FoundBy A ts i c → FoundBy A ts i d → c ≡ d
found-once A ts i c d f g =
    let a : c < d → ⊥ = λ h. g.earliest c h f.letter f.enters in
    let b : d < c → ⊥ = λ h. f.earliest d h g.letter g.enters in
    omega arith

-- THE STEPS BEFORE c

-- the numbering as far as it is made by the steps before c
pub record Explored (A : Automaton) (c : ℕ) (ts : List Tuple) : Type 0 where
  pub some : 0 < length ts
  pub begins : tuple_at A ts 0 ≡ first A
  pub distinct : Distinct A ts
  pub closed : (d : ℕ) → d < c → d / 8 < length ts → d % 8 < A.k → Listed A ts (entered A ts d)
  pub found : (i : ℕ) → 0 < i → i < length ts → (d : ℕ) × (d < c) × FoundBy A ts i d
  pub ordered : (i j d e : ℕ) → i < j → j < length ts → 0 < i → FoundBy A ts i d → FoundBy A ts j e → d < e

explored-first : (A : Automaton) → Explored A 0 (first A ∷ [])
explored-first A = record {
  some = omega arith;
  begins = refl;
  distinct = λ i j h k e. omega arith;
  closed = λ d h k l. absurd (omega arith);
  found = λ i h k. absurd (omega arith);
  ordered = λ i j d e h k l f g. absurd (omega arith);
}

-- a step that finds nothing new
explored-same : (A : Automaton) (c : ℕ) (ts : List Tuple) → Explored A c ts → (c / 8 < length ts → c % 8 < A.k → Listed A ts (entered A ts c)) → Explored A (suc c) ts
explored-same A c ts x f = record {
  some = x.some;
  begins = x.begins;
  distinct = x.distinct;
  closed = λ d h k l. closed d h k l (ℕ_discrete d c);
  found = λ i h k. let (d, l, g) = x.found i h k in (d, omega arith, g);
  ordered = x.ordered;
}
  where
    closed : (d : ℕ) → d < suc c → d / 8 < length ts → d % 8 < A.k → Dec (d ≡ c) → Listed A ts (entered A ts d)
    closed d h k l (yes e) = subst (λ (d : ℕ). Listed A ts (entered A ts d)) (sym e) (f (subst (λ (d : ℕ). d / 8 < length ts) e k) (subst (λ (d : ℕ). d % 8 < A.k) e l))
    closed d h k l (no e) = x.closed d (omega arith) k l

-- a step that finds a new tuple
module _ (A : Automaton) (c : ℕ) (ts : List Tuple) (x : Explored A c ts) (h : c / 8 < length ts) (l : c % 8 < A.k) (f : Listed A ts (entered A ts c) → ⊥) where
  m : ℕ
  m = length ts

  us : List Tuple
  us = ts ++ (entered A ts c ∷ [])

  us-length : length us ≡ suc m
  unfolding us m
  us-length = length_more ts (entered A ts c)

  us-agree : Agree A m ts us
  unfolding us m
  us-agree = agree-more A ts (entered A ts c)

  us-last : tuple_at A us m ≡ entered A ts c
  unfolding us m
  us-last = last-is A ts (entered A ts c)

  m-is : m ≡ length ts
  unfolding m
  m-is = refl

  -- the new tuple is entered by no step before c
  not-before : (d : ℕ) → d < c → d % 8 < A.k → entered A us d ≡ tuple_at A us m → ⊥
  not-before d k g e =
      let p : d / 8 < m = omega (arith, m-is) in
      let q : entered A ts d ≡ entered A ts c = enters-alike A m ts us us-agree d p ∙ e ∙ us-last in
      f (subst (λ (u : Tuple). Listed A ts u) q (x.closed d k (omega (arith, m-is)) g))

  found-new : FoundBy A us m c
  found-new = record {
    from = omega (arith, m-is);
    letter = l;
    enters = sym (enters-alike A m ts us us-agree c (omega (arith, m-is))) ∙ sym us-last;
    earliest = not-before;
  }

  distinct_more : Distinct A us
  distinct_more i j k g e = by (ℕ_discrete j m)
    where
      by : Dec (j ≡ m) → ⊥
      by (yes z) = f (i, omega (arith, m-is), us-agree i (omega arith) ∙ e ∙ ap (tuple_at A us) z ∙ us-last)
      by (no z) =
          let p : j < m = omega (arith, us-length) in
          x.distinct i j k (omega (arith, m-is)) (us-agree i (omega arith) ∙ e ∙ sym (us-agree j p))

  listed_more : (d : ℕ) → d / 8 < m → Listed A ts (entered A ts d) → Listed A us (entered A us d)
  listed_more d k (i, g, e) = (i, omega (arith, m-is, us-length), sym (us-agree i (omega (arith, m-is))) ∙ e ∙ enters-alike A m ts us us-agree d k)

  closed-more : (d : ℕ) → d < suc c → d / 8 < length us → d % 8 < A.k → Listed A us (entered A us d)
  closed-more d k g q = by (ℕ_discrete d c)
    where
      by : Dec (d ≡ c) → Listed A us (entered A us d)
      by (yes z) = (m, omega (arith, us-length), us-last ∙ enters-alike A m ts us us-agree c (omega (arith, m-is)) ∙ ap (entered A us) (sym z))
      by (no z) = listed_more d (omega (arith, m-is)) (x.closed d (omega arith) (omega arith) q)

  found-more : (i : ℕ) → 0 < i → i < length us → (d : ℕ) × (d < suc c) × FoundBy A us i d
  found-more i k g = by (ℕ_discrete i m)
    where
      by : Dec (i ≡ m) → (d : ℕ) × (d < suc c) × FoundBy A us i d
      by (yes z) = (c, omega arith, subst (λ (i : ℕ). FoundBy A us i c) (sym z) found-new)
      by (no z) =
          let p : i < m = omega (arith, us-length) in
          let (d, q, w) = x.found i k (omega (arith, m-is)) in
          (d, omega arith, found_alike A m ts us us-agree i d p w)

  us-agree' : Agree A m us ts
  us-agree' i k = sym (us-agree i k)

  ordered-more : (i j d e : ℕ) → i < j → j < length us → 0 < i → FoundBy A us i d → FoundBy A us j e → d < e
  ordered-more i j d e k g q v w = by (ℕ_discrete j m)
    where
      p : i < m
      p = omega (arith, us-length)

      by : Dec (j ≡ m) → d < e
      by (yes z) =
          let y : e ≡ c = found-once A us m e c (subst (λ (j : ℕ). FoundBy A us j e) z w) found-new in
          let (b, r, s) = x.found i q (omega (arith, m-is, p)) in
          let t : d ≡ b = found-once A us i d b v (found_alike A m ts us us-agree i b p s) in
          omega arith
      by (no z) =
          let r : j < m = omega (arith, us-length) in
          x.ordered i j d e k (omega (arith, m-is)) q (found_alike A m us ts us-agree' i d p v) (found_alike A m us ts us-agree' j e r w)

  explored-new : Explored A (suc c) us
  explored-new = record {
    some = omega (arith, us-length);
    begins = sym (us-agree 0 (omega (arith, m-is, x.some))) ∙ x.begins;
    distinct = distinct_more;
    closed = closed-more;
    found = found-more;
    ordered = ordered-more;
  }

explored-step : (A : Automaton) (c : ℕ) (ts us : List Tuple) → Explored A c ts → Stepped A c ts us → Explored A (suc c) us
unfolding us
explored-step A c ts _ x (Stepped.skip f e) = subst (Explored A (suc c)) (sym e) (explored-same A c ts x (λ h l. absurd (f h l)))
explored-step A c ts _ x (Stepped.old h l g e) = subst (Explored A (suc c)) (sym e) (explored-same A c ts x (λ h l. g))
explored-step A c ts _ x (Stepped.new h l f e) = subst (Explored A (suc c)) (sym e) (explored-new A c ts x h l f)

-- a step that finds a new tuple is its finding step
pub step-is-finding : (A : Automaton) (c : ℕ) (ts : List Tuple) → Explored A c ts → c / 8 < length ts → c % 8 < A.k → (Listed A ts (entered A ts c) → ⊥)
    → FoundBy A (ts ++ (entered A ts c ∷ [])) (length ts) c
unfolding us m
step-is-finding A c ts x h l f = found-new A c ts x h l f

pub explored : (A : Automaton) (c : ℕ) → Explored A c (found A c)
unfolding found
explored A zero = explored-first A
explored A (suc c) = explored-step A c (found A c) (step A c (found A c)) (explored A c) (stepped A c (found A c))
