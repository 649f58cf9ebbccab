-- A numbering lists each reachable tuple exactly once, there is one at most, and `found` gives it; where more tuples are found than the room
-- has, no numbering fits. Assumes nothing.
use Prim.Native.Nat.{ℕ, zero, suc, ◌+◌, ◌*◌, ◌/◌, ◌%◌, ◌≤◌, ◌<◌}
use Rattle.std.specs.Prelude.{◌≡◌, refl, length, take}
use Rattle.std.proofs.Common.{sym, ap, subst, ◌∙◌, get_or-take, length-take-le, ext_get_or}
use mathlib.Core.List.{List, [], ◌∷◌, ◌++◌}
use Rattle.std.proofs.Math.Decide.{ℕ_discrete, dec_lt}
use native.Mathlib.Omega.{arith}
use Rattle.lists.specs.AppendLaws.{length_more}
use Rattle.finite.specs.Finite.{pigeon-rel}
use Rattle.automaton.specs.Automaton.{Automaton}
use Rattle.tuple.specs.Step.{Tuple, first, next}
use Rattle.numbering.specs.Numbering.{after_word, Word, Reachable, tuple_at, Distinct, entered, FoundBy, Numbering, MoreThan}
use Rattle.numbering.specs.Explore.{step, found}
use Rattle.numbering.proofs.ExploreLaws.{Listed, Agree, Stepped, Explored, stepped, explored, agree-more, last-is, enters-alike}

-- REACHABLE TUPLES

pub after-snoc : (A : Automaton) (u : Tuple) (word : List ℕ) (l : ℕ) → after_word A u (word ++ (l ∷ [])) ≡ next A l (after_word A u word)
unfolding after_word
after-snoc A u [] l = refl
after-snoc A u (x ∷ word) l = after-snoc A (next A x u) word l

pub word-snoc : (A : Automaton) (word : List ℕ) (l : ℕ) → Word A word → l < A.k → Word A (word ++ (l ∷ []))
word-snoc A [] l w h = (h, tt)
word-snoc A (x ∷ word) l (g, w) h = (g, word-snoc A word l w h)

pub word-unsnoc : (A : Automaton) (word : List ℕ) (l : ℕ) → Word A (word ++ (l ∷ [])) → Word A word × (l < A.k)
word-unsnoc A [] l (h, w) = (tt, h)
word-unsnoc A (x ∷ word) l (g, w) = let (v, h) = word-unsnoc A word l w in ((g, v), h)

reachable-first : (A : Automaton) → Reachable A (first A)
unfolding after_word
reachable-first A = record { word = []; letters = tt; is = refl }

reachable-next : (A : Automaton) (u : Tuple) (l : ℕ) → Reachable A u → l < A.k → Reachable A (next A l u)
reachable-next A u l r h = record {
  word = r.word ++ (l ∷ []);
  letters = word-snoc A r.word l r.letters h;
  is = after-snoc A (first A) r.word l ∙ ap (next A l) r.is;
}

-- what holds of the first tuple and of the next of each, holds of every reachable tuple
module _ (A : Automaton) (P : Tuple → Type 0) (begins : P (first A)) (goes : (u : Tuple) (l : ℕ) → P u → l < A.k → P (next A l u)) where
  after-all : (u : Tuple) (word : List ℕ) → P u → Word A word → P (after_word A u word)
  unfolding after_word
  after-all u [] p w = p
  after-all u (l ∷ word) p (h, w) = after-all (next A l u) word (goes u l p h) w

  pub reachable-all : (u : Tuple) → Reachable A u → P u
  reachable-all u r = subst P r.is (after-all (first A) r.word begins r.letters)

-- EACH REACHABLE TUPLE ONCE

-- equal tuples have equal numbers
pub numbers_apart : (A : Automaton) (ts : List Tuple) → Distinct A ts → (i j : ℕ) → i < length ts → j < length ts → tuple_at A ts i ≡ tuple_at A ts j → i ≡ j
numbers_apart A ts distinct i j l m e =
    let a : i < j → ⊥ = λ h. distinct i j h m e in
    let b : j < i → ⊥ = λ h. distinct j i h l (sym e) in
    omega arith

-- every reachable tuple is listed
pub reachable-listed : (A : Automaton) (ts : List Tuple) → Numbering A ts → (u : Tuple) → Reachable A u → Listed A ts u
reachable-listed A ts n =
    reachable-all A (Listed A ts) (0, n.some, n.begins)
    (λ u l (i, h, e) k. let (j, g, f) = n.closed i l h k in (j, g, f ∙ ap (next A l) e))

-- every tuple with a number is reachable: each is found from one before it
module _ (A : Automaton) (ts : List Tuple) (begins : tuple_at A ts 0 ≡ first A) (found : (i : ℕ) → 0 < i → i < length ts → (c : ℕ) × FoundBy A ts i c) where
  below-reachable : (m i : ℕ) → i < m → i < length ts → Reachable A (tuple_at A ts i)
  below-reachable zero i h k = absurd (omega arith)
  below-reachable (suc m) i h k = by (ℕ_discrete i 0) (below-reachable m)
    where
      by : Dec (i ≡ 0) → ((j : ℕ) → j < m → j < length ts → Reachable A (tuple_at A ts j)) → Reachable A (tuple_at A ts i)
      by (yes e) ih = subst (Reachable A) (sym begins ∙ ap (tuple_at A ts) (sym e)) (reachable-first A)
      by (no e) ih =
          let (c, f) = found i (omega arith) k in
          let g = f.from in
          subst (Reachable A) f.enters (reachable-next A (tuple_at A ts (c / 8)) (c % 8) (ih (c / 8) (omega arith) (omega arith)) f.letter)

  listed-reachable : (i : ℕ) → i < length ts → Reachable A (tuple_at A ts i)
  listed-reachable i h = below-reachable (suc i) i (omega arith) h

-- the tuples of a numbering are all reachable
pub numbering-reachable : (A : Automaton) (ts : List Tuple) → Numbering A ts → (i : ℕ) → i < length ts → Reachable A (tuple_at A ts i)
numbering-reachable A ts n = listed-reachable A ts n.begins n.found

-- 11 comes exactly if there are more than room: a numbering that fits excludes it
pub more-excludes : (A : Automaton) (room : ℕ) (ts : List Tuple) → MoreThan A room → Numbering A ts → length ts ≤ room → ⊥
more-excludes A room ts m n h =
    let k = m.count in
    let (a, b, r, l, g, e, f) =
    pigeon-rel (length ts) (λ i r. tuple_at A ts r ≡ tuple_at A m.tuples i)
    (λ i j. reachable-listed A ts n (tuple_at A m.tuples i) (m.reachable i (omega arith))) in
    m.distinct a b l (omega arith) (sym e ∙ f)

-- WHAT IS FOUND

pub found-reachable : (A : Automaton) (c i : ℕ) → i < length (found A c) → Reachable A (tuple_at A (found A c) i)
found-reachable A c =
    let x = explored A c in
    listed-reachable A (found A c) x.begins (λ i h k. let (d, l, f) = x.found i h k in (d, f))

-- more found than the room has
pub found-more : (A : Automaton) (c room : ℕ) → room < length (found A c) → MoreThan A room
found-more A c room h =
    let e : length (take (suc room) (found A c)) ≡ suc room = length-take-le (suc room) (found A c) h in
    let at : (i : ℕ) → i < suc room → tuple_at A (take (suc room) (found A c)) i ≡ tuple_at A (found A c) i = λ i k. get_or-take (suc room) (found A c) i (first A) k in
    record {
      tuples = take (suc room) (found A c);
      count = e;
      distinct = λ i j k l f. (explored A c).distinct i j k (omega arith) (sym (at i (omega arith)) ∙ f ∙ at j (omega arith));
      reachable = λ i k. subst (Reachable A) (sym (at i (omega arith))) (found-reachable A c i (omega arith));
    }

-- every step of the tuples found is taken: they are all
pub found_all : (A : Automaton) (c : ℕ) → A.k ≤ 8 → 8 * length (found A c) ≤ c → Numbering A (found A c)
found_all A c k h =
    let x = explored A c in
    record {
      some = x.some;
      begins = x.begins;
      distinct = x.distinct;
      closed = λ t l g m. closed t l g m;
      found = λ i g l. let (d, m, f) = x.found i g l in (d, f);
      ordered = x.ordered;
    }
  where
    closed : (t l : ℕ) → t < length (found A c) → l < A.k → Listed A (found A c) (next A l (tuple_at A (found A c) t))
    closed t l g m =
        let p : (8 * t + l) / 8 ≡ t = omega arith in
        let q : (8 * t + l) % 8 ≡ l = omega arith in
        rw (p, q) at ((explored A c).closed (8 * t + l) (omega arith) (omega arith) (omega arith))

-- ONE NUMBERING

-- what is found is the beginning of every numbering
record Begins (A : Automaton) (ts us : List Tuple) : Type 0 where
  pub most : length us ≤ length ts
  pub alike : Agree A (length us) us ts

module _ (A : Automaton) (ts : List Tuple) (n : Numbering A ts) where
  -- no tuple that is listed behind us is entered by a step before c
  behind : (c : ℕ) (us : List Tuple) → Explored A c us → Begins A ts us → (i d : ℕ) → length us ≤ i → i < length ts → d < c → d / 8 < length us → d % 8 < A.k
      → entered A ts d ≡ tuple_at A ts i → ⊥
  behind c us x b i d h k g l m e =
      let (j, p, q) = x.closed d g l m in
      n.distinct j i (omega arith) k (sym (b.alike j p) ∙ q ∙ enters-alike A (length us) us ts b.alike d l ∙ e)

  -- the tuple that step c finds is the next of the numbering
  begins-new : (c : ℕ) (us : List Tuple) → Explored A c us → Begins A ts us → c / 8 < length us → c % 8 < A.k → (Listed A us (entered A us c) → ⊥)
      → Begins A ts (us ++ (entered A us c ∷ []))
  begins-new c us x b h l f = by (n.closed (c / 8) (c % 8) (omega (arith, b.most)) l)
    where
      same : entered A us c ≡ entered A ts c
      same = enters-alike A (length us) us ts b.alike c h

      -- it is listed there at j
      by : Listed A ts (entered A ts c) → Begins A ts (us ++ (entered A us c ∷ []))
      by (j, k, e) = at (dec_lt j (length us)) (ℕ_discrete j (length us))
        where
          alike : j ≡ length us → (i : ℕ) → i < length (us ++ (entered A us c ∷ [])) → Dec (i ≡ length us) → tuple_at A (us ++ (entered A us c ∷ [])) i ≡ tuple_at A ts i
          alike q i g (yes z) = ap (tuple_at A (us ++ (entered A us c ∷ []))) z ∙ last-is A us (entered A us c) ∙ same ∙ sym e ∙ ap (tuple_at A ts) (q ∙ sym z)
          alike q i g (no z) =
              let p : i < length us = omega (arith, length_more us (entered A us c)) in
              sym (agree-more A us (entered A us c) i p) ∙ b.alike i p

          at : Dec (j < length us) → Dec (j ≡ length us) → Begins A ts (us ++ (entered A us c ∷ []))
          at (yes p) d = absurd (f (j, p, b.alike j p ∙ e ∙ sym same))
          at (no p) (yes q) = record {
            most = omega (arith, length_more us (entered A us c));
            alike = λ i g. alike q i g (ℕ_discrete i (length us));
          }
          at (no p) (no q) =
              let (d, v) = n.found (length us) x.some (omega arith) in
              let (a, w) = n.found j (omega arith) k in
              let y = n.ordered (length us) j d a (omega arith) k x.some v w in
              let r : c < a → ⊥ = λ z. w.earliest c z l (sym e) in
              absurd (behind c us x b (length us) d (omega arith) (omega arith) (omega arith) v.from v.letter v.enters)

  begins-step : (c : ℕ) (us vs : List Tuple) → Explored A c us → Begins A ts us → Stepped A c us vs → Begins A ts vs
  begins-step c us vs x b (Stepped.skip f e) = subst (Begins A ts) (sym e) b
  begins-step c us vs x b (Stepped.old h l g e) = subst (Begins A ts) (sym e) b
  begins-step c us vs x b (Stepped.new h l f e) = subst (Begins A ts) (sym e) (begins-new c us x b h l f)

  found-begins : (c : ℕ) → Begins A ts (found A c)
  unfolding found
  found-begins zero = record { most = n.some; alike = λ i h. let e : i ≡ 0 = omega arith in rw e (sym n.begins) }
  found-begins (suc c) = begins-step c (found A c) (step A c (found A c)) (explored A c) (found-begins c) (stepped A c (found A c))

  -- all its tuples are found by their steps
  found-length : length (found A (8 * length ts)) ≡ length ts
  found-length = by (dec_lt (length (found A (8 * length ts))) (length ts))
    where
      by : Dec (length (found A (8 * length ts)) < length ts) → length (found A (8 * length ts)) ≡ length ts
      by (yes h) =
          let c = 8 * length ts in
          let x = explored A c in
          let m = length (found A c) in
          let (d, v) = n.found m x.some h in
          let f = v.from in
          absurd (behind c (found A c) x (found-begins c) m d (omega arith) h (omega arith) v.from v.letter v.enters)
      by (no h) = omega (arith, (found-begins (8 * length ts)).most)

  numbering-is : ts ≡ found A (8 * length ts)
  numbering-is =
      ext_get_or (first A) ts (found A (8 * length ts)) (sym found-length)
      (λ i h. sym ((found-begins (8 * length ts)).alike i (omega (arith, found-length))))

pub numbering-unique : (A : Automaton) (ts us : List Tuple) → Numbering A ts → Numbering A us → ts ≡ us
numbering-unique A ts us n m =
    let e : length ts ≡ length us = omega (arith, (found-begins A us m (8 * length ts)).most, (found-begins A ts n (8 * length us)).most, ap length (numbering-is A ts n), ap length (numbering-is A us m)) in
    numbering-is A ts n ∙ ap (λ (i : ℕ). found A (8 * i)) e ∙ sym (numbering-is A us m)
