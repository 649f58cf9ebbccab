-- The numbers of a sheet that is rewritten are those with a mark on every transition into a must-recur state. Assumes nothing.
use Rattle.std.specs.Prelude.{ℕ, zero, suc, ◌^◌, ◌≡◌, ◌⊎◌, get_or, replicate}
use Rattle.std.proofs.Math.Path.{refl, sym, ap}
use Rattle.std.proofs.Common.{◌∙◌, inl, inr, arith}
use mathlib.Core.List.{List, [], ◌∷◌, map}
use Rattle.std.proofs.Math.ListN.{set}
use Rattle.std.proofs.Math.Seq.{map-set_same}
use Rattle.sets.specs.Sets.{bit, Member, union_of, inter_of}
use Rattle.sets.specs.SetLaws.{ext-member, union-in, union_left, union_right, inter-in, inter-of, zero-inter, single-in, bit-lt}
use Rattle.automaton.specs.Rewritten.{marked_into}
use Rattle.automaton.proofs.RewrittenLaws.{cell-into}
use Rattle.format.specs.Format.{State, Transition, Sheet, cell}
use Rattle.format.specs.Numbers.{flag_set, inserted, table_of, where_member, marked_of, numbers}
use Rattle.editions.specs.Rewritten.{marking, unflagging, rewritten}

-- The flags

initials-kept : (q : ℕ) (zs : List State) → flag_set (λ z. z.initial) q (map unflagging zs) ≡ flag_set (λ z. z.initial) q zs
unfolding flag_set
initials-kept q [] = refl
initials-kept q (z ∷ zs) = rw (initials-kept (suc q) zs)

recurrings-gone : (q : ℕ) (zs : List State) → flag_set (λ z. z.recurring) q (map unflagging zs) ≡ 0
unfolding flag_set
recurrings-gone q [] = refl
recurrings-gone q (z ∷ zs) = rw (recurrings-gone (suc q) zs) (omega arith)

-- The transitions: marks are no part of the successor sets

successors-kept : (R : ℕ) (table : List ℕ) (ts : List Transition) → table_of table (map (marking R) ts) ≡ table_of table ts
unfolding table_of inserted
successors-kept R table [] = refl
successors-kept R table (t ∷ ts) = successors-kept R (inserted table t) ts

-- The marks

-- a store in a table whose cells are then mapped
map-set : (f : ℕ → ℕ) (l : List ℕ) (i y : ℕ) → map f (set l i y) ≡ set (map f l) i (f y)
map-set f [] i y = refl
map-set f (x ∷ xs) zero y = refl
map-set f (x ∷ xs) (suc i) y = ap (λ (r : List ℕ). f x ∷ r) (map-set f xs i y)

module _ (R : ℕ) where
  abbrev into : ℕ → ℕ
  into x = inter_of x R

  -- a state of R is kept, with the others of R
  kept_new : (x q : ℕ) → Member R q → into (union_of x (2 ^ q)) ≡ union_of (into x) (2 ^ q)
  kept_new x q m = ext-member (into (union_of x (2 ^ q))) (union_of (into x) (2 ^ q)) to from
    where
      to : (r : ℕ) → Member (into (union_of x (2 ^ q))) r → Member (union_of (into x) (2 ^ q)) r
      to r h = let (a, b) = inter-in (union_of x (2 ^ q)) R r h in by (union-in x (2 ^ q) r a) b
        where
          by : Member x r ⊎ Member (2 ^ q) r → Member R r → Member (union_of (into x) (2 ^ q)) r
          by (inl a) b = union_left (into x) (2 ^ q) r (inter-of x R r a b)
          by (inr a) b = union_right (into x) (2 ^ q) r a

      from : (r : ℕ) → Member (union_of (into x) (2 ^ q)) r → Member (into (union_of x (2 ^ q))) r
      from r h = by (union-in (into x) (2 ^ q) r h)
        where
          by : Member (into x) r ⊎ Member (2 ^ q) r → Member (into (union_of x (2 ^ q))) r
          by (inl a) = let (b, c) = inter-in x R r a in inter-of (union_of x (2 ^ q)) R r (union_left x (2 ^ q) r b) c
          by (inr a) = inter-of (union_of x (2 ^ q)) R r (union_right x (2 ^ q) r a) (let e = single-in q r a in rw e m)

  -- another is not
  kept-none : (x q : ℕ) → (Member R q → ⊥) → into (union_of x (2 ^ q)) ≡ into x
  kept-none x q n = ext-member (into (union_of x (2 ^ q))) (into x) to from
    where
      to : (r : ℕ) → Member (into (union_of x (2 ^ q))) r → Member (into x) r
      to r h = let (a, b) = inter-in (union_of x (2 ^ q)) R r h in by (union-in x (2 ^ q) r a) b
        where
          by : Member x r ⊎ Member (2 ^ q) r → Member R r → Member (into x) r
          by (inl a) b = inter-of x R r a b
          by (inr a) b = let e = single-in q r a in absurd (n (rw e at b))

      from : (r : ℕ) → Member (into x) r → Member (into (union_of x (2 ^ q))) r
      from r h = let (a, b) = inter-in x R r h in inter-of (union_of x (2 ^ q)) R r (union_left x (2 ^ q) r a) b

  -- one transition more: with its mark where it leads into R
  inserted-into : (table : List ℕ) (t : Transition) → Member R t.to → inserted (map into table) (marking R t) ≡ map into (inserted table t)
  unfolding inserted
  inserted-into table t m =
      let c = cell t in
      ap (λ (x : ℕ). set (map into table) c x) (ap (λ (x : ℕ). union_of x (2 ^ t.to)) (cell-into R table c) ∙ sym (kept_new (get_or table c 0) t.to m))
      ∙ sym (map-set into table c (union_of (get_or table c 0) (2 ^ t.to)))

  inserted-none : (table : List ℕ) (t : Transition) → (Member R t.to → ⊥) → map into table ≡ map into (inserted table t)
  unfolding inserted
  inserted-none table t n =
      let c = cell t in
      sym (map-set_same into table c (union_of (get_or table c 0) (2 ^ t.to)) 0 (kept-none (get_or table c 0) t.to n))

  marks-into : (table : List ℕ) (ts : List Transition) → table_of (map into table) (marked_of (map (marking R) ts)) ≡ map into (table_of table ts)
  unfolding table_of marked_of
  marks-into table [] = refl
  marks-into table (t ∷ ts) = by (bit R t.to) refl (marks-into (inserted table t) ts)
    where
      rest : List Transition
      rest = marked_of (map (marking R) ts)

      by : (b : ℕ) → bit R t.to ≡ b → table_of (map into (inserted table t)) rest ≡ map into (table_of (inserted table t) ts)
          → table_of (map into table) (where_member b (marking R t) rest) ≡ map into (table_of (inserted table t) ts)
      by zero e ih = ap (λ (z : List ℕ). table_of z rest) (inserted-none table t (λ m. omega arith)) ∙ ih
      by (suc b) e ih = ap (λ (z : List ℕ). table_of z rest) (inserted-into table t (omega (arith, bit-lt R t.to))) ∙ ih

zeros-into : (R n : ℕ) → replicate {A = ℕ} n 0 ≡ map (into R) (replicate n 0)
zeros-into R zero = refl
zeros-into R (suc n) = λ i. sym (zero-inter R) i ∷ zeros-into R n i

-- THE NUMBERS of the sheet rewritten
pub numbers-rewritten : (σ : Sheet) → numbers (rewritten σ) ≡ marked_into (numbers σ)
unfolding numbers rewritten
numbers-rewritten σ =
    let R = flag_set (λ z. z.recurring) 0 σ.states in
    λ i. record {
      edition = (marked_into (numbers σ)).edition;
      n = σ.n;
      k = σ.k;
      initial = initials-kept 0 σ.states i;
      recurring = recurrings-gone 0 σ.states i;
      table = successors-kept R (replicate 128 0) σ.transitions i;
      marks = (ap (λ (z : List ℕ). table_of z (marked_of (map (marking R) σ.transitions))) (zeros-into R 128) ∙ marks-into R (replicate 128 0) σ.transitions) i;
    }
