-- The lent tables from step to step. Assumes nothing.
use Rattle.std.specs.Prelude.{ℕ, ◌+◌, ◌/◌, ◌%◌, ◌≤◌, ◌<◌, ◌≡◌, List, [], ◌∷◌, ◌++◌, length, get_or, set}
use Rattle.std.proofs.Math.Path.{refl}
use Rattle.std.proofs.Common.{sym, ap, subst, ◌∙◌, arith, length-set, get_or-set_same, get_or-set_other}
use Rattle.std.proofs.Math.Decide.{ℕ_discrete}
use Rattle.std.proofs.Math.Numerals.{add-one}
use Rattle.lists.specs.AppendLaws.{length_more}
use Rattle.tuple_record.specs.declared.WayBack.{WayBack}
use Rattle.tuple_record.specs.Record.{record_start, row_at, from_in, letter_in}
use Rattle.tuple_record.specs.RecordLaws.{record-length, row_kept, from-kept, letter-kept, behind-kept, stored_row, stored-from, stored-letter}
use Rattle.row_index.specs.Index.{Indexed, Added}
use Rattle.rows.specs.Rows.{FoundOrAdded}
use Rattle.automaton.specs.Automaton.{Automaton, Fits}
use Rattle.tuple.specs.Step.{Tuple, next, Formed}
use Rattle.tuple.specs.Row.{row, tuple_of, Steps}
use Rattle.tuple.specs.TupleLaws.{next-formed}
use Rattle.tuple.specs.RowLaws.{formed-row, row-injective, formed-steps}
use Rattle.numbering.specs.Numbering.{tuple_at, entered, FoundBy, FirstFound, TupleCells}
use Rattle.numbering.specs.Explore.{step, found}
use Rattle.numbering.proofs.ExploreLaws.{Listed, Agree, step-skips, step_keeps, step-finds, step-is-finding, explored, agree-more, last-is, enters-alike, way-alike}
use Rattle.numbering.proofs.NumberingLaws.{found-reachable}
use Rattle.expanding.specs.FormedLaws.{reachable-formed}
use Rattle.expanding.specs.TablesLaws.{room-alike}
use Rattle.expanding.specs.Expand.{NextsBefore, Filled, Taken, Goes}

-- WHAT IS FOUND

module _ (A : Automaton) (fits : Fits A) where
  found-formed : (c i : ℕ) → i < length (found A c) → Formed A (tuple_at A (found A c) i)
  found-formed c i h = reachable-formed fits (tuple_at A (found A c) i) (found-reachable A c i h)

-- ONE STEP

module _ {A : Automaton} {room c m : ℕ} {tuples nexts head link : List ℕ} (f : Filled A room c m tuples nexts head link) where
  abbrev ts : List Tuple
  ts = found A c

  row_of : (t : ℕ) → t < m → row_at tuples t ≡ row (tuple_at A ts t)
  row_of t h =
      let e = f.count in
      f.tuples-are.row t (omega arith)

  -- what the step asks of a row
  pub fill-steps : Taken A c m → Steps A (c % 8) (row_at tuples (c / 8))
  fill-steps s =
      let e = f.count in
      let h = s.from in
      subst (Steps A (c % 8)) (sym (row_of (c / 8) h)) (formed-steps f.fits (c % 8) s.letter (found-formed A f.fits c (c / 8) (omega arith)))

  -- and the row that it gives
  fill-enters : Taken A c m → row (next A (c % 8) (tuple_of (row_at tuples (c / 8)))) ≡ row (entered A ts c)
  fill-enters s =
      let e = f.count in
      let h = s.from in
      ap (λ (l : List ℕ). row (next A (c % 8) (tuple_of l))) (row_of (c / 8) h)
      ∙ ap (λ (u : Tuple). row (next A (c % 8) u)) (formed-row f.fits (found-formed A f.fits c (c / 8) (omega arith)))

  -- the cell for its number
  in-nexts : Taken A c m → c < length nexts
  in-nexts s =
      let p = s.from in
      let q = f.room-is in
      let r = f.room_fits.nexts in
      omega arith

  entered-formed : Taken A c m → Formed A (entered A ts c)
  entered-formed s = next-formed f.fits (c % 8) s.letter (tuple_at A ts (c / 8))

  found-suc : found A (c + 1) ≡ step A c ts
  unfolding found
  found-suc = rw add-one refl

  -- a row of the table is that of the tuple entered: it has this number
  number-at : Taken A c m → (t : ℕ) → t < m → row_at tuples t ≡ row (entered A ts c) → tuple_at A ts t ≡ entered A ts c
  number-at s t h e =
      let g = f.count in
      row-injective f.fits (found-formed A f.fits c t (omega arith)) (entered-formed s) (sym (row_of t h) ∙ e)

  -- none is: it is new
  not_listed : Taken A c m → ((t : ℕ) → t < m → row_at tuples t ≡ row (entered A ts c) → ⊥) → Listed A ts (entered A ts c) → ⊥
  not_listed s g (i, h, e) = let k = f.count in g i (omega arith) (row_of i (omega arith) ∙ ap row e)

  filled-same : found A (c + 1) ≡ ts → (nexts' : List ℕ) → length nexts' ≡ length nexts → NextsBefore A (c + 1) ts nexts' → Filled A room (c + 1) m tuples nexts' head link
  filled-same e nexts' l n = record {
    fits = f.fits;
    room_fits = room-alike refl l f.room_fits;
    count = f.count ∙ ap length (sym e);
    room-is = f.room-is;
    tuples-are = rw e f.tuples-are;
    nexts-are = rw e n;
    index = f.index;
  }

  -- there is no such letter
  filled-skip : (c % 8 < A.k → ⊥) → Filled A room (c + 1) m tuples nexts head link
  filled-skip g =
      filled-same (found-suc ∙ step-skips A c ts (λ h l. g l)) nexts refl
      (record {
        next = λ d h k l. f.nexts-are.next d (before d h l (ℕ_discrete d c)) k l;
        zero = λ d z. f.nexts-are.zero d (λ h k l. z (omega arith) k l);
      })
    where
      before : (d : ℕ) → d < c + 1 → d % 8 < A.k → Dec (d ≡ c) → d < c
      before d h l (yes e) = absurd (g (subst (λ (x : ℕ). x % 8 < A.k) e l))
      before d h l (no e) = omega arith

  -- the next number of step c is entered, where us is what is found then
  module _ (s : Taken A c m) (us : List Tuple) (a : Agree A (length ts) ts us) (l : length ts ≤ length us) (t : ℕ) (h : t < length us) (e : tuple_at A us t ≡ entered A us c) where
    next_more : (d : ℕ) → d < c + 1 → d % 8 < A.k → Dec (d ≡ c) → (get_or (set nexts c t) d 0 < length us) × (tuple_at A us (get_or (set nexts c t) d 0) ≡ entered A us d)
    next_more d k g (yes q) =
        let v : get_or (set nexts c t) d 0 ≡ t = ap (λ (i : ℕ). get_or (set nexts c t) i 0) q ∙ get_or-set_same nexts c t 0 (in-nexts s) in
        (omega arith, ap (tuple_at A us) v ∙ e ∙ ap (entered A us) (sym q))
    next_more d k g (no q) =
        let p = f.count in
        let r = s.from in
        let x : d / 8 < length ts = omega arith in
        let (j, y) = f.nexts-are.next d (omega arith) x g in
        rw (get_or-set_other nexts c d t 0 q) (omega (arith, j), sym (a (get_or nexts d 0) j) ∙ y ∙ enters-alike A (length ts) ts us a d x)

    zero_more : (d : ℕ) → (d < c + 1 → d / 8 < length us → d % 8 < A.k → ⊥) → Dec (d ≡ c) → get_or (set nexts c t) d 0 ≡ 0
    zero_more d z (yes q) =
        let p = f.count in
        let r = s.from in
        absurd (z (omega arith) (omega arith) (subst (λ (i : ℕ). i % 8 < A.k) (sym q) s.letter))
    zero_more d z (no q) = rw (get_or-set_other nexts c d t 0 q) (f.nexts-are.zero d (λ g k j. z (omega arith) (omega arith) j))

    nexts-more : NextsBefore A (c + 1) us (set nexts c t)
    nexts-more = record { next = λ d k g j. next_more d k j (ℕ_discrete d c); zero = λ d z. zero_more d z (ℕ_discrete d c) }

  -- the tuple entered has number t
  filled-old : Taken A c m → (t : ℕ) → t < m → row_at tuples t ≡ row (entered A ts c) → Filled A room (c + 1) m tuples (set nexts c t) head link
  filled-old s t h e =
      let p = f.count in
      filled-same (found-suc ∙ step_keeps A c ts (t, omega arith, number-at s t h e)) (set nexts c t) (length-set nexts c t)
      (nexts-more s ts (λ i k. refl) (omega arith) t (omega arith) (number-at s t h e))

  -- the tuple entered is new
  module _ (s : Taken A c m) (none : (t : ℕ) → t < m → row_at tuples t ≡ row (entered A ts c) → ⊥) where
    abbrev us : List Tuple
    us = ts ++ (entered A ts c ∷ [])

    found-new : found A (c + 1) ≡ us
    found-new =
        let p = f.count in
        let h = s.from in
        found-suc ∙ step-finds A c ts (omega arith) s.letter (not_listed s none)

    us-length : length us ≡ m + 1
    us-length = length_more ts (entered A ts c) ∙ omega (arith, f.count)

    -- and there is no room for it
    filled-over : room ≤ m → room < length (found A (c + 1))
    filled-over h = omega (arith, ap length found-new, us-length)

    last-enters : tuple_at A us m ≡ entered A us c
    last-enters =
        let p = f.count in
        let h = s.from in
        ap (tuple_at A us) p ∙ last-is A ts (entered A ts c) ∙ enters-alike A (length ts) ts us (agree-more A ts (entered A ts c)) c (omega arith)

    nexts-new : NextsBefore A (c + 1) us (set nexts c m)
    nexts-new =
        let p = f.count in
        nexts-more s us (agree-more A ts (entered A ts c)) (omega (arith, us-length)) m (omega (arith, us-length)) last-enters

    -- its way back is the step
    way-new : FirstFound A us m (c / 8) (c % 8)
    way-new =
        let p = f.count in
        let h = s.from in
        let x = explored A c in
        record {
          first = λ e. let z = x.some in absurd (omega arith);
          found = λ k. (c, subst (λ (i : ℕ). FoundBy A us i c) (sym p) (step-is-finding A c ts x (omega arith) s.letter (not_listed s none)), refl, refl);
        }

    module _ (h : m < room) (tuples' head' link' : List ℕ) (way : WayBack) (from : way.from ≡ c / 8) (letter : way.letter ≡ c % 8)
        (a : Added tuples tuples' m (row (entered A ts c)) way head' link') where
      same_length : length tuples' ≡ length tuples
      same_length = record-length a.is

      row_new : (t : ℕ) → t < m + 1 → Dec (t ≡ m) → row_at tuples' t ≡ row (tuple_at A us t)
      row_new t k (yes e) =
          let p = f.count in
          ap (row_at tuples') e ∙ stored_row a.is ∙ ap row (sym (last-is A ts (entered A ts c)) ∙ ap (tuple_at A us) (sym (e ∙ p)))
      row_new t k (no e) =
          let p = f.count in
          row_kept a.is t (omega arith) ∙ row_of t (omega arith) ∙ ap row (agree-more A ts (entered A ts c) t (omega arith))

      ways-new : (t : ℕ) → t < m + 1 → Dec (t ≡ m) → FirstFound A us t (from_in tuples' t) (letter_in tuples' t)
      ways-new t k (yes e) =
          rw (e, stored-from a.is, stored-letter a.is, from, letter) way-new
      ways-new t k (no e) =
          let p = f.count in
          rw (from-kept a.is t (omega arith), letter-kept a.is t (omega arith))
          (way-alike A (length ts) ts us (agree-more A ts (entered A ts c)) (omega arith) (f.tuples-are.way t (omega arith)))

      tuples-new : TupleCells A us tuples'
      tuples-new =
          let p = f.count in
          record {
            row = λ t k. row_new t (omega (arith, us-length)) (ℕ_discrete t m);
            way = λ t k. ways-new t (omega (arith, us-length)) (ℕ_discrete t m);
            zero = λ i k.
                (let e : record_start (m + 1) ≤ i = omega (arith, us-length) in
                behind-kept a.is i e ∙ f.tuples-are.zero i (omega arith));
          }

      -- and it is added
      filled-new : Filled A room (c + 1) (m + 1) tuples' (set nexts c m) head' link'
      filled-new = record {
        fits = f.fits;
        room_fits = room-alike same_length (length-set nexts c m) f.room_fits;
        count = sym us-length ∙ ap length (sym found-new);
        room-is = omega arith;
        tuples-are = rw found-new tuples-new;
        nexts-are = rw found-new nexts-new;
        index = a.indexed;
      }

-- the same rows with an index of theirs
filled-kept : {A : Automaton} {room c m : ℕ} {tuples nexts head link tuples' head' link' : List ℕ} → tuples' ≡ tuples → Indexed tuples' m head' link'
    → Filled A room c m tuples nexts head link → Filled A room c m tuples' nexts head' link'
filled-kept e i f = record {
  fits = f.fits;
  room_fits = rw e f.room_fits;
  count = f.count;
  room-is = f.room-is;
  tuples-are = rw e f.tuples-are;
  nexts-are = f.nexts-are;
  index = i;
}

-- THE ANSWERS OF A STEP

pub goes-skip : {A : Automaton} {room c m : ℕ} {tuples nexts head link : List ℕ} → Filled A room c m tuples nexts head link → A.k ≤ c % 8
    → Goes A room (c + 1) m tuples nexts head link
goes-skip f h =
    let p = f.room-is in
    record { fitting = λ l. filled-skip f (λ g. omega arith); over = λ l. absurd (omega arith) }

-- w is the row that the step gives, way the step itself, and t the row's number; the tables are behind it as find_or_add leaves them
pub record Looked (A : Automaton) (room c m : ℕ) (tuples nexts head link w : List ℕ) (way : WayBack) (tuples' head' link' : List ℕ) (t : ℕ) : Type 0 where
  pub filled : Filled A room c m tuples nexts head link
  pub taken : Taken A c m
  pub gives : w ≡ row (next A (c % 8) (tuple_of (row_at tuples (c / 8))))
  pub from : way.from ≡ c / 8
  pub letter : way.letter ≡ c % 8
  pub placed : FoundOrAdded tuples tuples' m room w way head' link' t

module _ {A : Automaton} {room c m t : ℕ} {tuples nexts head link w tuples' head' link' : List ℕ} {way : WayBack} (g : Looked A room c m tuples nexts head link w way tuples' head' link' t) where
  is : w ≡ row (entered A (found A c) c)
  is = g.gives ∙ fill-enters g.filled g.taken

  none : m ≤ t → (i : ℕ) → i < m → row_at tuples i ≡ row (entered A (found A c) c) → ⊥
  none h i k q = let p = g.placed.found.most in g.placed.found.none (omega arith) i k (q ∙ sym is)

  pub goes-old : t < m → Goes A room (c + 1) m tuples' (set nexts c t) head' link'
  goes-old h =
      let p = g.filled.room-is in
      let (e, i) = g.placed.kept h in
      record {
        fitting = λ l. filled-kept e i (filled-old g.filled g.taken t h (g.placed.found.is h ∙ is));
        over = λ l. absurd (omega arith);
      }

  pub goes-new : m ≤ t → t < room → Goes A room (c + 1) (m + 1) tuples' (set nexts c t) head' link'
  goes-new h k =
      let p = g.placed.found.most in
      let e : t ≡ m = omega arith in
      let a = subst (λ (x : List ℕ). Added tuples tuples' m x way head' link') is (g.placed.added h (omega arith)) in
      record {
        fitting = λ l. rw e (filled-new g.filled g.taken (none h) (omega arith) tuples' head' link' way g.from g.letter a);
        over = λ l. absurd (omega arith);
      }

  pub goes_over : room ≤ t → Goes A room (c + 1) (m + 1) tuples' nexts head' link'
  goes_over k =
      let p = g.placed.found.most in
      let q = g.filled.room-is in
      record {
        fitting = λ l. absurd (omega arith);
        over = λ l. filled-over g.filled g.taken (none (omega arith)) (omega arith);
      }
