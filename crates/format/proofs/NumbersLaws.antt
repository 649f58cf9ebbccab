-- The numbers of a sheet: its flags are members of two sets, its transitions are members of the successor sets, the marked ones of the marks, and all of them fit.
-- Assumes nothing.
use Prim.Native.Nat.{ℕ, zero, suc, ◌+◌, ◌-◌, ◌*◌, ◌/◌, ◌%◌, ◌^◌, ◌≤◌, ◌<◌}
use Rattle.std.specs.Prelude.{◌≡◌, refl, ◌⊎◌, ◌↔◌, set, take, replicate}
use Rattle.std.proofs.Common.{sym, ◌∙◌, take_at, get_or-set_other, add-zero, zero-add}
use Rattle.std.proofs.Math.Path.{ap, subst}
use mathlib.Core.List.{List, [], ◌∷◌}
use Rattle.std.proofs.Math.Logic.{inl, inr}
use mathlib.Core.Logic.Dec
use Rattle.gate.specs.GateLaws.{zeros}
use Rattle.std.proofs.Math.ListN.{length, get_or, length-set}
use Rattle.std.proofs.Math.Seq.{get_or-set_same, set_out}
use native.Mathlib.Omega.{arith}
use Rattle.std.proofs.Math.Decide.{dec_lt, ℕ_discrete}
use Rattle.sets.specs.Sets.{bit, Member, set_of, union_of}
use Rattle.sets.specs.SetLaws.{no_member, some-member, member-lt, union_right, bit-union, bit-single, bit-single-other, set_of-lt, bit-set_of}
use Rattle.automaton.specs.declared.Numbers.{Numbers}
use Rattle.automaton.specs.Automaton.{TransitionSets, automaton, graph_of, AreNumbers, RecurringFits, MarkFits, Fits}
use Rattle.automaton.specs.declared.Edition.{Edition}
use Rattle.automaton.specs.declared.Edition.TheVariants.{StateBased, TransitionBased}
use Rattle.automaton.specs.Graph.{Edge, InRange, Within}
use Rattle.automaton.specs.Reading.{MarkedEdge}
use Rattle.lent.specs.Lent.{lent_sets}
use Rattle.format.specs.Format.{State, Transition, Withdrawal, Sheet, most_recurring, most_mark, FlagsRight, StatesRight, TransitionRight, TransitionsRight, InForce, AllInForce, cell, transition_index, Right, FileIs}
use Rattle.format.specs.Numbers.{flag_set, inserted, table_of, inserted_where, where_member, marked_of, sets_from, numbers}
use Rattle.format.specs.Withdrawals.{EdgesInForce}

-- Flags

-- a state with neither flag
abbrev pub unflagged : State
unflagged = record { initial = 0; recurring = 0 }

-- the flags of some states, which f gives by number from q on, add up to the set of f between q and the number behind the last
flags-sum :
    (flag : State → ℕ) (f : ℕ → ℕ) (q : ℕ) (zs : List State) → ((i : ℕ) → i < length zs → flag (get_or zs i unflagged) ≡ f (q + i)) →
    set_of (q + length zs) f ≡ set_of q f + flag_set flag q zs
unfolding set_of flag_set
flags-sum flag f q [] h = rw (add-zero q) (sym (add-zero _))
flags-sum flag f q (z ∷ zs) h =
    let e : q + suc (length zs) ≡ suc q + length zs = omega arith in
    let here : flag z ≡ f q = h 0 (omega arith) ∙ ap f (add-zero q) in
    let later = flags-sum flag f (suc q) zs (λ i l. h (suc i) (omega arith) ∙ ap f (omega arith)) in
    rw (e, later, here) (omega arith)

pub flags-set :
    (flag : State → ℕ) (f : ℕ → ℕ) (zs : List State) → ((i : ℕ) → i < length zs → flag (get_or zs i unflagged) ≡ f i) → flag_set flag 0 zs ≡ set_of (length zs) f
unfolding set_of
flags-set flag f zs h = sym (ap (λ (m : ℕ). set_of m f) (sym (zero-add (length zs))) ∙ flags-sum flag f 0 zs (λ i l. h i l ∙ ap f (sym (zero-add i))) ∙ zero-add _)

flags-right : (e : Edition) (zs : List State) → StatesRight e zs → (q : ℕ) → FlagsRight e (get_or zs q unflagged)
flags-right e [] r q = (omega arith, omega arith)
flags-right e (z ∷ zs) r zero = r.0
flags-right e (z ∷ zs) r (suc q) = flags-right e zs r.1 q

-- the flags of a state are 0 or 1, in either edition
most-recurring : (e : Edition) → most_recurring e ≤ 1
most-recurring StateBased = omega arith
most-recurring TransitionBased = omega arith

pub initial-flag : (e : Edition) (z : State) → FlagsRight e z → z.initial ≤ 1
initial-flag e z h = h.0

pub recurring-flag : (e : Edition) (z : State) → FlagsRight e z → z.recurring ≤ 1
recurring-flag e z h = omega (arith, h.1, most-recurring e)

-- the members of a set of flags are the states with the flag
flags-are : (flag : State → ℕ) (e : Edition) → ((z : State) → FlagsRight e z → flag z ≤ 1) → (zs : List State) → StatesRight e zs →
    (q : ℕ) → Member (flag_set flag 0 zs) q ↔ ((q < length zs) × (flag (get_or zs q unflagged) ≡ 1))
flags-are flag e small zs right q = (from, to)
  where
    f : ℕ → ℕ
    f i = flag (get_or zs i unflagged)

    below : (i : ℕ) → f i < 2
    below i = omega (arith, small (get_or zs i unflagged) (flags-right e zs right i))

    is : flag_set flag 0 zs ≡ set_of (length zs) f
    is = flags-set flag f zs (λ i l. refl)

    from : Member (flag_set flag 0 zs) q → (q < length zs) × (f q ≡ 1)
    from m =
        let m' : Member (set_of (length zs) f) q = subst (λ (x : ℕ). Member x q) is m in
        let l = member-lt _ (length zs) q (set_of-lt (length zs) f below) m' in
        (l, sym (bit-set_of (length zs) f below q l) ∙ m')

    to : (q < length zs) × (f q ≡ 1) → Member (flag_set flag 0 zs) q
    to (l, e) = subst (λ (x : ℕ). Member x q) (sym is) (bit-set_of (length zs) f below q l ∙ e)

-- the must-recur states of SHT-2: none
unflagged-set : (q : ℕ) (zs : List State) → StatesRight TransitionBased zs → flag_set (λ z. z.recurring) q zs ≡ 0
unfolding flag_set
unflagged-set q [] h = refl
unflagged-set q (z ∷ zs) h = let e : z.recurring ≡ 0 = omega (arith, h.0.1) in rw (e, unflagged-set (suc q) zs h.1) (omega arith)

-- Transitions

abbrev pub transition : ℕ → ℕ → ℕ → ℕ → Transition
transition from letter to mark = record { from = from; letter = letter; to = to; mark = mark }

-- one of the transitions of a list
abbrev pub OneOf : List Transition → Transition → Type 0
OneOf ts t = (i : ℕ) × (i < length ts) × (get_or ts i (transition 0 0 0 0) ≡ t)

module _ (table : List ℕ) (t : Transition) where
  pub inserted-length : length (inserted table t) ≡ length table
  unfolding inserted
  inserted-length = simp length-set

  -- a transition is a member of its cell, and all other members stay as they are
  pub inserted_new : cell t < length table → Member (get_or (inserted table t) (cell t) 0) t.to
  unfolding inserted
  inserted_new fits = rw get_or-set_same (union_right _ _ _ (bit-single t.to))

  pub inserted-other : (c r : ℕ) → (c ≡ cell t → r ≡ t.to → ⊥) → bit (get_or (inserted table t) c 0) r ≡ bit (get_or table c 0) r
  unfolding inserted
  inserted-other c r h = by (ℕ_discrete c (cell t)) (dec_lt (cell t) (length table))
    where
      by : Dec (c ≡ cell t) → Dec (cell t < length table)
          → bit (get_or (set table (cell t) (union_of (get_or table (cell t) 0) (2 ^ t.to))) c 0) r ≡ bit (get_or table c 0) r
      by (no d) l = rw (get_or-set_other table (cell t) c _ 0 d)
      by (yes e) (yes l) =
          let u = bit-union (get_or table (cell t) 0) (2 ^ t.to) r in
          let o = bit-single-other t.to r (h e) in
          rw (e, get_or-set_same) (omega arith)
      by (yes e) (no l) = rw (set_out table (cell t) _ (omega arith))

  module _ (c r : ℕ) where
    inserted-old : cell t < length table → Member (get_or table c 0) r → Member (get_or (inserted table t) c 0) r
    inserted-old fits m = by (Dec.and (ℕ_discrete c (cell t)) (ℕ_discrete r t.to))
      where
        by : Dec ((c ≡ cell t) × (r ≡ t.to)) → Member (get_or (inserted table t) c 0) r
        by (yes (e, f)) = rw (e, f) (inserted_new fits)
        by (no d) = inserted-other c r (λ e f. d (e, f)) ∙ m

    inserted-from : Member (get_or (inserted table t) c 0) r → Member (get_or table c 0) r ⊎ ((c ≡ cell t) × (r ≡ t.to))
    inserted-from m = by (Dec.and (ℕ_discrete c (cell t)) (ℕ_discrete r t.to))
      where
        by : Dec ((c ≡ cell t) × (r ≡ t.to)) → Member (get_or table c 0) r ⊎ ((c ≡ cell t) × (r ≡ t.to))
        by (yes e) = inr e
        by (no d) = inl (sym (inserted-other c r (λ e f. d (e, f))) ∙ m)

-- the table of all transitions is as long as the one that they are inserted in
pub table-length : (ts : List Transition) (table : List ℕ) → length (table_of table ts) ≡ length table
unfolding table_of
table-length [] table = refl
table-length (t ∷ ts) table = table-length ts (inserted table t) ∙ inserted-length table t

-- a transition where a bit is 1: the table stays as long, and all other members as they are
pub where-length : (b : ℕ) (table : List ℕ) (c r : ℕ) → length (inserted_where b table c r) ≡ length table
where-length zero table c r = refl
where-length (suc b) table c r = simp length-set

pub where-other : (b : ℕ) (table : List ℕ) (t : Transition) (c r : ℕ) → (c ≡ cell t → r ≡ t.to → ⊥)
    → bit (get_or (inserted_where b table (cell t) t.to) c 0) r ≡ bit (get_or table c 0) r
unfolding inserted
where-other zero table t c r h = refl
where-other (suc b) table t c r h = inserted-other table t c r h

-- a transition that stands in front of others there is inserted before them
pub table-where : (b : ℕ) (table : List ℕ) (t : Transition) (ts : List Transition) → table_of table (where_member b t ts) ≡ table_of (inserted_where b table (cell t) t.to) ts
unfolding inserted table_of
table-where zero table t ts = refl
table-where (suc b) table t ts = refl

-- a transition that is right behind others is right
pub loosened : {e : Edition} {n k least : ℕ} {t : Transition} → TransitionRight e n k least t → TransitionRight e n k 0 t
loosened h = record { from = h.from; letter = h.letter; to = h.to; order = omega arith; mark = h.mark }

-- state r is in the successor set number c by one of the transitions
record Entered (e : Edition) (n k : ℕ) (ts : List Transition) (c r : ℕ) : Type 0 where
  pub by : Transition
  pub one : OneOf ts by
  pub right : TransitionRight e n k 0 by
  pub at : c ≡ cell by
  pub to : r ≡ by.to

module _ (e : Edition) (n k : ℕ) (range : InRange n k) where
  -- a transition in range has a cell of its own among the 128
  cell-small : (t : Transition) → t.from < n → t.letter < k → cell t < 128
  cell-small t f l = omega arith

  cell_same : (t u : Transition) → t.letter < k → u.letter < k → cell t ≡ cell u → (t.from ≡ u.from) × (t.letter ≡ u.letter)
  cell_same t u l m e = (omega arith, omega arith)

  module _ (c r : ℕ) where
    -- what is a member stays one
    table-old : (table : List ℕ) → length table ≡ 128 → (least : ℕ) (ts : List Transition) → TransitionsRight e n k least ts →
        Member (get_or table c 0) r → Member (get_or (table_of table ts) c 0) r
    unfolding table_of
    table-old table size least [] h m = m
    table-old table size least (t ∷ ts) h m =
        let fits : cell t < length table = omega (arith, cell-small t h.0.from h.0.letter) in
        table-old (inserted table t) (inserted-length table t ∙ size) (transition_index t + 1) ts h.1 (inserted-old table t c r fits m)

    -- a member was one, or is a transition's
    table-from : (table : List ℕ) → length table ≡ 128 → (least : ℕ) (ts : List Transition) → TransitionsRight e n k least ts →
        Member (get_or (table_of table ts) c 0) r → Member (get_or table c 0) r ⊎ Entered e n k ts c r
    unfolding table_of
    table-from table size least [] h m = inl m
    table-from table size least (t ∷ ts) h m = by (table-from (inserted table t) (inserted-length table t ∙ size) (transition_index t + 1) ts h.1 m)
      where
        first : Member (get_or table c 0) r ⊎ ((c ≡ cell t) × (r ≡ t.to)) → Member (get_or table c 0) r ⊎ Entered e n k (t ∷ ts) c r
        first (inl a) = inl a
        first (inr a) = inr (record { by = t; one = (0, omega arith, refl); right = loosened h.0; at = a.0; to = a.1 })

        by : Member (get_or (inserted table t) c 0) r ⊎ Entered e n k ts c r → Member (get_or table c 0) r ⊎ Entered e n k (t ∷ ts) c r
        by (inl a) = first (inserted-from table t c r a)
        by (inr a) = (let (i, l, e) = a.one in inr (record { by = a.by; one = (suc i, omega (arith, l), e); right = a.right; at = a.at; to = a.to }))

  -- each transition is in its cell
  table-new : (t : Transition) (table : List ℕ) → length table ≡ 128 → (least : ℕ) (ts : List Transition) → TransitionsRight e n k least ts →
      (i : ℕ) → i < length ts → get_or ts i (transition 0 0 0 0) ≡ t → Member (get_or (table_of table ts) (cell t) 0) t.to
  unfolding table_of
  table-new t table size least [] h i l is = absurd (omega arith)
  table-new t table size least (u ∷ us) h zero l is =
      let fits : cell u < length table = omega (arith, cell-small u h.0.from h.0.letter) in
      table-old (cell t) t.to (inserted table u) (inserted-length table u ∙ size) (transition_index u + 1) us h.1
      (subst (λ (v : Transition). Member (get_or (inserted table u) (cell v) 0) v.to) is (inserted_new table u fits))
  table-new t table size least (u ∷ us) h (suc i) l is =
      let fits : cell u < length table = omega (arith, cell-small u h.0.from h.0.letter) in
      table-new t (inserted table u) (inserted-length table u ∙ size) (transition_index u + 1) us h.1 i (omega arith) is

  -- each transition of a list is right
  one_right : (t : Transition) (least : ℕ) (ts : List Transition) → TransitionsRight e n k least ts → OneOf ts t → TransitionRight e n k 0 t
  one_right t least [] h o = absurd (let l = o.1 in omega arith)
  one_right t least (u ∷ us) h (zero, l, is) = subst (TransitionRight e n k 0) is (loosened h.0)
  one_right t least (u ∷ us) h (suc i, l, is) = one_right t (transition_index u + 1) us h.1 (i, omega arith, is)

-- no cell of the empty table has a member
none_yet : (c r : ℕ) → Member (get_or (replicate {A = ℕ} 128 0) c 0) r → ⊥
none_yet c r m = no_member r (subst (λ (x : ℕ). Member x r) (zeros 128 c) m)

-- THE MARKED ONES among some transitions are of them, in their order

lowered : (e : Edition) (n k least low : ℕ) (ts : List Transition) → low ≤ least → TransitionsRight e n k least ts → TransitionsRight e n k low ts
lowered e n k least low [] l h = tt
lowered e n k least low (t ∷ ts) l h = (record { from = h.0.from; letter = h.0.letter; to = h.0.to; order = omega (arith, h.0.order); mark = h.0.mark }, h.1)

pub marked-right : (e : Edition) (n k least : ℕ) (ts : List Transition) → TransitionsRight e n k least ts → TransitionsRight e n k least (marked_of ts)
unfolding marked_of
marked-right e n k least [] h = tt
marked-right e n k least (t ∷ ts) h = by t.mark (marked-right e n k (transition_index t + 1) ts h.1)
  where
    by : (b : ℕ) → TransitionsRight e n k (transition_index t + 1) (marked_of ts) → TransitionsRight e n k least (where_member b t (marked_of ts))
    by zero r = lowered e n k (transition_index t + 1) least (marked_of ts) (omega (arith, h.0.order)) r
    by (suc b) r = (h.0, r)

one-marked : (ts : List Transition) (t : Transition) → OneOf (marked_of ts) t ↔ (OneOf ts t × (t.mark ≡ 0 → ⊥))
unfolding marked_of
one-marked [] t = (λ o. absurd (let l = o.1 in omega arith), λ (o, m). absurd (let l = o.1 in omega arith))
one-marked (u ∷ us) t = (λ o. into u.mark refl (one-marked us t).0 o, λ (o, m). out u.mark refl (one-marked us t).1 o m)
  where
    into : (b : ℕ) → u.mark ≡ b → (OneOf (marked_of us) t → OneOf us t × (t.mark ≡ 0 → ⊥)) → OneOf (where_member b u (marked_of us)) t
        → OneOf (u ∷ us) t × (t.mark ≡ 0 → ⊥)
    into zero e rest o = let ((i, l, is), m) = rest o in ((suc i, omega arith, is), m)
    into (suc b) e rest (zero, l, is) =
        ((0, omega arith, is), λ z. (let d : t.mark ≡ suc b = sym (ap (λ (v : Transition). v.mark) is) ∙ e in omega arith))
    into (suc b) e rest (suc i, l, is) = let ((j, k, at), m) = rest (i, omega arith, is) in ((suc j, omega arith, at), m)

    out : (b : ℕ) → u.mark ≡ b → (OneOf us t × (t.mark ≡ 0 → ⊥) → OneOf (marked_of us) t) → OneOf (u ∷ us) t → (t.mark ≡ 0 → ⊥)
        → OneOf (where_member b u (marked_of us)) t
    out zero e rest (zero, l, is) m = absurd (m (sym (ap (λ (v : Transition). v.mark) is) ∙ e))
    out zero e rest (suc i, l, is) m = rest ((i, omega arith, is), m)
    out (suc b) e rest (zero, l, is) m = (0, omega arith, is)
    out (suc b) e rest (suc i, l, is) m = let (j, k, at) = rest ((i, omega arith, is), m) in (suc j, omega arith, at)

-- THE TABLE OF SOME TRANSITIONS that are right: its members are these
module _ (e : Edition) (n k : ℕ) (range : InRange n k) (ts : List Transition) (right : TransitionsRight e n k 0 ts) where
  member_is : (c r : ℕ) → Member (get_or (sets_from ts) c 0) r → Entered e n k ts c r
  member_is c r m = by (table-from e n k range c r (replicate 128 0) refl 0 ts right m)
    where
      by : Member (get_or (replicate {A = ℕ} 128 0) c 0) r ⊎ Entered e n k ts c r → Entered e n k ts c r
      by (inl a) = absurd (none_yet c r a)
      by (inr a) = a

  member_of : (t : Transition) → OneOf ts t → Member (get_or (sets_from ts) (cell t) 0) t.to
  member_of t o = table-new e n k range t (replicate 128 0) refl 0 ts right o.0 o.1 o.2

  -- in terms of from, letter and to
  pub member-one : (l q r : ℕ) → l < k → Member (get_or (sets_from ts) (8 * q + l) 0) r ↔ ((m : ℕ) × OneOf ts (transition q l r m))
  member-one l q r h = (from, λ (m, o). member_of (transition q l r m) o)
    where
      from : Member (get_or (sets_from ts) (8 * q + l) 0) r → (m : ℕ) × OneOf ts (transition q l r m)
      from m =
          let w = member_is (8 * q + l) r m in
          let s = cell_same e n k range (transition q l r 0) w.by h w.right.letter w.at in
          let same : w.by ≡ transition q l r w.by.mark =
          λ i. record { from = sym s.0 i; letter = sym s.1 i; to = sym w.to i; mark = w.by.mark } in
          let (i, b, is) = w.one in
          (w.by.mark, (i, b, is ∙ same))

  -- a cell outside n and k has no member
  cell-empty : (i : ℕ) → (i / 8 < n → i % 8 < k → ⊥) → get_or (sets_from ts) i 0 ≡ 0
  cell-empty i out = by (ℕ_discrete (get_or (sets_from ts) i 0) 0)
    where
      by : Dec (get_or (sets_from ts) i 0 ≡ 0) → get_or (sets_from ts) i 0 ≡ 0
      by (yes z) = z
      by (no z) =
          let w = some-member (get_or (sets_from ts) i 0) z in
          let m = member_is i w.0 w.1 in
          let u : i ≡ cell m.by = m.at in
          let f : m.by.from < n = m.right.from in
          let l : m.by.letter < k = m.right.letter in
          let few : k ≤ 8 = range.3 in
          absurd (out (omega arith) (omega arith))

  member-within : (i r : ℕ) → Member (get_or (sets_from ts) i 0) r → r < n
  member-within i r m = let w = member_is i r m in let u : r ≡ w.by.to = w.to in omega (arith, w.right.to)

-- a SHEET has no marked transition
unmarked : (n k least : ℕ) (ts : List Transition) → TransitionsRight StateBased n k least ts → marked_of ts ≡ []
unfolding marked_of
unmarked n k least [] h = refl
unmarked n k least (t ∷ ts) h =
    let z : t.mark ≡ 0 = omega (arith, h.0.mark) in
    ap (λ (b : ℕ). where_member b t (marked_of ts)) z ∙ unmarked n k (transition_index t + 1) ts h.1

module _ (σ : Sheet) (right : Right σ) where
  -- "transitions (from, letter, to)": the edges of the numbers are the transitions of the sheet, whatever their marks
  right-edge : (l q r : ℕ) → Edge (graph_of (numbers σ)) l q r ↔ ((m : ℕ) × OneOf σ.transitions (transition q l r m))
  unfolding numbers
  right-edge l q r = (from, to)
    where
      from : Edge (graph_of (numbers σ)) l q r → (m : ℕ) × OneOf σ.transitions (transition q l r m)
      from e = (member-one σ.edition σ.n σ.k right.range σ.transitions right.transitions l q r e.letter).0 e.to

      to : (m : ℕ) × OneOf σ.transitions (transition q l r m) → Edge (graph_of (numbers σ)) l q r
      to (m, o) =
          let h = one_right σ.edition σ.n σ.k right.range (transition q l r m) 0 σ.transitions right.transitions o in
          record { letter = h.letter; from = h.from; to = member_of σ.edition σ.n σ.k right.range σ.transitions right.transitions (transition q l r m) o }

  -- R-9: its marked transitions are right
  marks-right : TransitionsRight σ.edition σ.n σ.k 0 (marked_of σ.transitions)
  marks-right = marked-right σ.edition σ.n σ.k 0 σ.transitions right.transitions

  -- and the marked edges are these
  marked-one : (l q r : ℕ) → l < σ.k → MarkedEdge (numbers σ) l q r ↔ ((m : ℕ) × OneOf σ.transitions (transition q l r m) × (m ≡ 0 → ⊥))
  unfolding numbers
  marked-one l q r h = (from, to)
    where
      both : Member (get_or (sets_from (marked_of σ.transitions)) (8 * q + l) 0) r ↔ ((m : ℕ) × OneOf (marked_of σ.transitions) (transition q l r m))
      both = member-one σ.edition σ.n σ.k right.range (marked_of σ.transitions) marks-right l q r h

      from : MarkedEdge (numbers σ) l q r → (m : ℕ) × OneOf σ.transitions (transition q l r m) × (m ≡ 0 → ⊥)
      from e = let (m, o) = both.0 e in let (p, z) = (one-marked σ.transitions (transition q l r m)).0 o in (m, p, z)

      to : (m : ℕ) × OneOf σ.transitions (transition q l r m) × (m ≡ 0 → ⊥) → MarkedEdge (numbers σ) l q r
      to (m, p, z) = both.1 (m, (one-marked σ.transitions (transition q l r m)).1 (p, z))

  -- "initial 0 or 1 (3), must-recur 0 or 1 (3)": the members of the two sets are the states with the flag
  right-flag : (flag : State → ℕ) → ((z : State) → FlagsRight σ.edition z → flag z ≤ 1) → length σ.states ≡ σ.n →
      (q : ℕ) → Member (flag_set flag 0 σ.states) q ↔ ((q < σ.n) × (flag (get_or σ.states q unflagged) ≡ 1))
  right-flag flag small all q =
      subst (λ (n : ℕ). Member (flag_set flag 0 σ.states) q ↔ ((q < n) × (flag (get_or σ.states q unflagged) ≡ 1))) all
      (flags-are flag σ.edition small σ.states right.states q)

  -- questions 4, 7 and 8 hold of the numbers
  right-recurring : (e : Edition) → StatesRight e σ.states → Within σ.n (flag_set (λ z. z.recurring) 0 σ.states)
      → RecurringFits e σ.n (flag_set (λ z. z.recurring) 0 σ.states)
  right-recurring StateBased states within = within
  right-recurring TransitionBased states within = unflagged-set 0 σ.states states

  right-marks : (e : Edition) → TransitionsRight e σ.n σ.k 0 σ.transitions → (i : ℕ)
      → MarkFits e (get_or (sets_from σ.transitions) i 0) (get_or (sets_from (marked_of σ.transitions)) i 0)
  unfolding table_of
  right-marks StateBased h i = ap (λ (ts : List Transition). get_or (sets_from ts) i 0) (unmarked σ.n σ.k 0 σ.transitions h) ∙ zeros 128 i
  right-marks TransitionBased h i = λ r m.
      let w = member_is TransitionBased σ.n σ.k right.range (marked_of σ.transitions) (marked-right TransitionBased σ.n σ.k 0 σ.transitions h) i r m in
      let (o, z) = (one-marked σ.transitions w.by).0 w.one in
      let e = member_of TransitionBased σ.n σ.k right.range σ.transitions h w.by o in
      subst (λ (x : ℕ). Member (get_or (sets_from σ.transitions) i 0) x) (sym w.to)
      (subst (λ (c : ℕ). Member (get_or (sets_from σ.transitions) c 0) w.by.to) (sym w.at) e)

  right-fits : length σ.states ≡ σ.n → Fits (numbers σ)
  unfolding numbers
  right-fits all = record {
    range = right.range;
    states = (
      λ q m. ((right-flag (λ z. z.initial) (initial-flag σ.edition) all q).0 m).0,
      right-recurring σ.edition right.states (λ q m. ((right-flag (λ z. z.recurring) (recurring-flag σ.edition) all q).0 m).0),
    );
    cells = λ i. record {
      within = member-within σ.edition σ.n σ.k right.range σ.transitions right.transitions i;
      empty = cell-empty σ.edition σ.n σ.k right.range σ.transitions right.transitions i;
    };
    marks = right-marks σ.edition right.transitions;
  }

pub sheet-fits : (s : List ℕ) (σ : Sheet) → FileIs s σ → Fits (numbers σ)
sheet-fits s σ h = right-fits σ h.right h.all-states

-- each transition of a list is on a letter in force
one-in-force : (ws : List Withdrawal) (ts : List Transition) → AllInForce ws ts → (t : Transition) → OneOf ts t → InForce ws t.letter
one-in-force ws [] f t o = absurd (let l = o.1 in omega arith)
one-in-force ws (u ∷ us) f t (zero, l, e) = subst (λ (v : Transition). InForce ws v.letter) e f.0
one-in-force ws (u ∷ us) f t (suc i, l, e) = one-in-force ws us f.1 t (i, omega arith, e)

-- WHAT THE NUMBERS OF A SHEET MEAN: its transitions, its marked ones, its initial states and its must-recur states
module _ (s : List ℕ) (σ : Sheet) (file : FileIs s σ) where
  pub transition-is : (l q r : ℕ) → Edge (graph_of (numbers σ)) l q r ↔ ((m : ℕ) × OneOf σ.transitions (transition q l r m))
  transition-is = right-edge σ file.right

  -- a SHEET has no marks
  pub sheet-unmarked : σ.edition ≡ StateBased → (numbers σ).marks ≡ replicate 128 0
  unfolding table_of numbers
  sheet-unmarked e =
      ap sets_from (unmarked σ.n σ.k 0 σ.transitions (subst (λ (e : Edition). TransitionsRight e σ.n σ.k 0 σ.transitions) e file.right.transitions))

  -- "Transition lines may not use a withdrawn letter."
  pub sheet-in-force : EdgesInForce (graph_of (numbers σ)) σ.withdrawals
  sheet-in-force l q r e =
      let (m, o) = (transition-is l q r).0 e in
      one-in-force σ.withdrawals σ.transitions file.right.in-force (transition q l r m) o

  -- R-9: "a 0 or 1 more .. on its T lines": 1 marks it
  pub mark-is : (l q r : ℕ) → l < σ.k → MarkedEdge (numbers σ) l q r ↔ OneOf σ.transitions (transition q l r 1)
  mark-is l q r h = (λ e. let (m, o, z) = (marked-one σ file.right l q r h).0 e in one m o z, λ o. (marked-one σ file.right l q r h).1 (1, o, λ z. omega arith))
    where
      most : (e : Edition) → most_mark e ≤ 1
      most StateBased = omega arith
      most TransitionBased = omega arith

      one : (m : ℕ) → OneOf σ.transitions (transition q l r m) → (m ≡ 0 → ⊥) → OneOf σ.transitions (transition q l r 1)
      one m o z =
          let h = (one_right σ.edition σ.n σ.k file.right.range (transition q l r m) 0 σ.transitions file.right.transitions o).mark in
          let e : m ≡ 1 = omega (arith, h, most σ.edition, z) in
          subst (λ (m : ℕ). OneOf σ.transitions (transition q l r m)) e o

  pub initial-is : (q : ℕ) → Member (numbers σ).initial q ↔ ((q < σ.n) × ((get_or σ.states q unflagged).initial ≡ 1))
  unfolding numbers
  initial-is = right-flag σ file.right (λ z. z.initial) (initial-flag σ.edition) file.all-states

  pub recurring-is : (q : ℕ) → Member (numbers σ).recurring q ↔ ((q < σ.n) × ((get_or σ.states q unflagged).recurring ≡ 1))
  unfolding numbers
  recurring-is = right-flag σ file.right (λ z. z.recurring) (recurring-flag σ.edition) file.all-states

-- WHAT IS READ: an answer's numbers, and tables of successor sets and marks

pub numbers-length : (σ : Sheet) → length (numbers σ).table ≡ 128
unfolding numbers
numbers-length σ = table-length σ.transitions (replicate 128 0)

pub marks-length : (σ : Sheet) → length (numbers σ).marks ≡ 128
unfolding numbers
marks-length σ = table-length (marked_of σ.transitions) (replicate 128 0)

pub automaton-is : (σ : Sheet) {a : Numbers} {table marks : List ℕ} → AreNumbers (numbers σ) a → table ≡ (numbers σ).table → marks ≡ (numbers σ).marks
    → automaton a table marks ≡ numbers σ
automaton-is σ h e m = λ i. record { edition = h.edition i; n = h.n i; k = h.k i; initial = h.initial i; recurring = h.recurring i; table = e i; marks = m i }

-- the first 128 cells of lent tables are the successor sets and the marks
pub read_is : (σ : Sheet) {a : Numbers} (t : TransitionSets) {u : TransitionSets} → AreNumbers (numbers σ) a → u ≡ lent_sets (numbers σ) t
    → automaton a (take 128 u.successors) (take 128 u.marks) ≡ numbers σ
read_is σ t h e =
    automaton-is σ h
    (ap (λ (v : TransitionSets). take 128 v.successors) e ∙ take_at (numbers σ).table (replicate (length t.successors - 128) 0) 128 (numbers-length σ))
    (ap (λ (v : TransitionSets). take 128 v.marks) e ∙ take_at (numbers σ).marks (replicate (length t.marks - 128) 0) 128 (marks-length σ))
