-- The numbers of the sheet that is written are those it is written from: state by state, and place by place of the tables. Assumes nothing.
use Prim.Native.Nat.{ℕ, zero, suc, ◌+◌, ◌*◌, ◌/◌, ◌%◌, ◌^◌, ◌≤◌, ◌<◌}
use Rattle.std.specs.Prelude.{◌≡◌, List, ◌∷◌, length, get_or, take, replicate}
use Rattle.std.proofs.Math.Path.{refl, sym}
use Rattle.std.proofs.Common.{ap, ◌∙◌, add-zero, zero-add, ext_get_or, get_or-take, length-take-le}
use native.Mathlib.Omega.{arith}
use Rattle.std.proofs.Math.Decide.{dec_lt, ℕ_discrete}
use Rattle.std.proofs.lemmas.List.{get_or-replicate}
use Rattle.sets.specs.Sets.{bit, Member, set_of}
use Rattle.sets.specs.SetLaws.{bit-lt, bit-out, bit-zero, ext, small-of-within, set-is-sum}
use Rattle.automaton.specs.Automaton.{Automaton, sets_of_automaton, Fits}
use Rattle.automaton.specs.QuestionLaws.{recurring-within, marked-within}
use Rattle.lent.specs.Lent.{EnoughForSets}
use Rattle.format.specs.Format.{State, Transition, Withdrawal, cell}
use Rattle.format.specs.Numbers.{flag_set, inserted, table_of, inserted_where, where_member, marked_of, sets_from, numbers}
use Rattle.format.specs.Written.{state_of, states_of, most_transitions, bit_at, placed, transitions_of, sheet_of, written_sheet}
use Rattle.format.proofs.NumbersLaws.{unflagged, flags-set, inserted_new, table-length, where-length, where-other, table-where}
use Rattle.sheet_sections.specs.LengthLaws.{states_of-length}
use Rattle.writer.specs.Writing.{trimmed}

-- The states' flags

states-at : (initial recurring m q i : ℕ) → i < m → get_or (states_of initial recurring q m) i unflagged ≡ state_of initial recurring (q + i)
unfolding states_of
states-at initial recurring zero q i l = absurd (omega arith)
states-at initial recurring (suc m) q zero l = rw (add-zero q)
states-at initial recurring (suc m) q (suc i) l =
    let e : q + suc i ≡ suc q + i = omega arith in
    rw e (states-at initial recurring m (suc q) i (omega arith))

-- the flags of n states give back the set that they were taken from
flags-back : (initial recurring : ℕ) (flag : State → ℕ) (x : ℕ) → ((q : ℕ) → flag (state_of initial recurring q) ≡ bit x q) →
    (n : ℕ) → x < 2 ^ n → flag_set flag 0 (states_of initial recurring 0 n) ≡ x
flags-back initial recurring flag x reads n h =
    let size = states_of-length initial recurring n 0 in
    flags-set flag (bit x) (states_of initial recurring 0 n) (λ i l. ap flag (states-at initial recurring n 0 i (omega arith)) ∙ reads (0 + i) ∙ ap (bit x) (zero-add i))
    ∙ ap (λ (m : ℕ). set_of m (bit x)) size ∙ set-is-sum n x h

-- The places of a table, from i on

module _ (T marks : List ℕ) where
  -- a bit that is at no place from i on stays as it was
  keeps : (left i : ℕ) (table : List ℕ) (c q : ℕ) → ((j : ℕ) → i ≤ j → c ≡ j / 16 → q ≡ j % 16 → ⊥)
      → bit (get_or (table_of table (transitions_of T marks i left)) c 0) q ≡ bit (get_or table c 0) q
  unfolding table_of transitions_of
  keeps zero i table c q h = refl
  keeps (suc left) i table c q h =
      let b = bit_at T i in
      let more = inserted_where b table (cell (placed marks i)) (i % 16) in
      rw (table-where b table (placed marks i) (transitions_of T marks (suc i) left))
      (keeps left (suc i) more c q (λ j l. h j (omega arith)) ∙ where-other b table (placed marks i) c q (λ e. h i (omega arith) (omega arith)))

  -- a bit that is 0 and at a place from i on becomes T's
  gains : (left i : ℕ) (table : List ℕ) (c q : ℕ) → c < length table → q < 16 → i ≤ 16 * c + q → 16 * c + q < i + left → bit (get_or table c 0) q ≡ 0
      → bit (get_or (table_of table (transitions_of T marks i left)) c 0) q ≡ bit (get_or T c 0) q
  unfolding inserted table_of transitions_of
  gains zero i table c q hc hq h l z = absurd (omega arith)
  gains (suc left) i table c q hc hq h l z =
      let b = bit_at T i in
      let more = inserted_where b table (cell (placed marks i)) (i % 16) in
      let other : (i ≡ 16 * c + q → ⊥) → bit (get_or more c 0) q ≡ bit (get_or table c 0) q = λ d. where-other b table (placed marks i) c q (λ f g. d (omega arith)) in
      rw (table-where b table (placed marks i) (transitions_of T marks (suc i) left))
      (elim (ℕ_discrete i (16 * c + q)) [
        | yes e ↦ keeps left (suc i) more c q (λ j k f g. omega arith) ∙ here b refl e
        | no d ↦ gains left (suc i) more c q (rw where-length hc) hq (omega arith) (omega arith) (other d ∙ z)
      ])
    where
      here : (b : ℕ) → bit_at T i ≡ b → i ≡ 16 * c + q → bit (get_or (inserted_where b table (cell (placed marks i)) (i % 16)) c 0) q ≡ bit (get_or T c 0) q
      here b f e =
          let number : i / 16 ≡ c = omega arith in
          let member : i % 16 ≡ q = omega arith in
          by b (rw (number, member) at f)
        where
          by : (b : ℕ) → bit (get_or T c 0) q ≡ b → bit (get_or (inserted_where b table (cell (placed marks i)) (i % 16)) c 0) q ≡ bit (get_or T c 0) q
          by zero f = z ∙ sym f
          by (suc b) f =
              let o : bit (get_or T c 0) q ≡ 1 = omega (arith, bit-lt (get_or T c 0) q) in
              let p : c ≡ 8 * (i / 128) + i / 16 % 8 = omega arith in
              let r : q ≡ i % 16 = omega arith in
              let one : bit (get_or (inserted table (placed marks i)) c 0) q ≡ 1 = rw (p, r) (inserted_new table (placed marks i) (omega arith)) in
              one ∙ sym o

  -- the transitions of a table of 128 sets of states below 16 give it back
  table-back : 128 ≤ length T → ((c q : ℕ) → Member (get_or T c 0) q → q < 16) → (empty : List ℕ) → length empty ≡ 128 → ((c : ℕ) → c < 128 → get_or empty c 0 ≡ 0)
      → table_of empty (transitions_of T marks 0 most_transitions) ≡ take 128 T
  table-back h within empty k z =
      ext_get_or 0 (table_of empty (transitions_of T marks 0 most_transitions)) (take 128 T) (size ∙ sym (length-take-le 128 T h))
      (λ c l. let l' : c < 128 = omega (arith, size) in rw (get_or-take 128 T c 0 l') (same c l'))
    where
      size : length (table_of empty (transitions_of T marks 0 most_transitions)) ≡ 128
      size = table-length (transitions_of T marks 0 most_transitions) empty ∙ k

      same : (c : ℕ) → c < 128 → get_or (table_of empty (transitions_of T marks 0 most_transitions)) c 0 ≡ get_or T c 0
      same c l = ext _ _ (λ q. at q (dec_lt q 16))
        where
          none : (q : ℕ) → bit (get_or empty c 0) q ≡ 0
          none q = ap (λ (x : ℕ). bit x q) (z c l) ∙ bit-zero q

          at : (q : ℕ) → Dec (q < 16) → bit (get_or (table_of empty (transitions_of T marks 0 most_transitions)) c 0) q ≡ bit (get_or T c 0) q
          at q (yes s) = gains most_transitions 0 empty c q (omega arith) s (omega arith) (omega arith) (none q)
          at q (no s) = keeps most_transitions 0 empty c q (λ j u f g. s (omega arith)) ∙ none q ∙ sym (bit-out (get_or T c 0) q (λ m. s (within c q m)))

-- The marked transitions are those that stand in the marks' own table, where marks are of transitions

marked_next : (t : Transition) (ts : List Transition) → marked_of (t ∷ ts) ≡ where_member t.mark t (marked_of ts)
unfolding marked_of
marked_next t ts = refl

module _ (T marks : List ℕ) (within : (c q : ℕ) → Member (get_or marks c 0) q → Member (get_or T c 0) q) where
  marked-places : (left i : ℕ) → marked_of (transitions_of T marks i left) ≡ transitions_of marks marks i left
  unfolding marked_of transitions_of
  marked-places zero i = refl
  marked-places (suc left) i = by (bit_at T i) (bit_at marks i) refl refl (marked-places left (suc i))
    where
      by : (b m : ℕ) → bit_at T i ≡ b → bit_at marks i ≡ m → marked_of (transitions_of T marks (suc i) left) ≡ transitions_of marks marks (suc i) left
          → marked_of (where_member b (placed marks i) (transitions_of T marks (suc i) left)) ≡ where_member m (placed marks i) (transitions_of marks marks (suc i) left)
      by zero zero e f later = later
      by zero (suc m) e f later = absurd (omega (arith, within (i / 16) (i % 16) (omega (arith, bit-lt (get_or marks (i / 16) 0) (i % 16)))))
      by (suc b) m e f later = marked_next (placed marks i) (transitions_of T marks (suc i) left) ∙ rw (f, later)

-- The numbers

pub numbers-written : (A : Automaton) (names : List (List ℕ)) (ws : List Withdrawal) → Fits A → EnoughForSets (sets_of_automaton A)
    → numbers (written_sheet A names ws) ≡ trimmed A
unfolding numbers sheet_of written_sheet
numbers-written A names ws fits long =
    λ i. record { edition = A.edition; n = A.n; k = A.k; initial = initials i; recurring = recurrings i; table = cells i; marks = marked i }
  where
    initials : flag_set (λ z. z.initial) 0 (states_of A.initial A.recurring 0 A.n) ≡ A.initial
    initials = flags-back A.initial A.recurring (λ z. z.initial) A.initial (λ q. refl) A.n (small-of-within A.initial A.n fits.states.0)

    recurrings : flag_set (λ z. z.recurring) 0 (states_of A.initial A.recurring 0 A.n) ≡ A.recurring
    recurrings = flags-back A.initial A.recurring (λ z. z.recurring) A.recurring (λ q. refl) A.n (small-of-within A.recurring A.n (recurring-within fits))

    below : (c q : ℕ) → Member (get_or A.table c 0) q → q < 16
    below c q m = let l = (fits.cells c).within q m in omega (arith, fits.range)

    cells : sets_from (transitions_of A.table A.marks 0 most_transitions) ≡ take 128 A.table
    cells = table-back A.table A.marks long.cells below (replicate 128 0) refl (λ c l. get_or-replicate 128 c 0 0 l)

    marked : sets_from (marked_of (transitions_of A.table A.marks 0 most_transitions)) ≡ take 128 A.marks
    marked =
        ap sets_from (marked-places A.table A.marks (marked-within fits) most_transitions 0)
        ∙ table-back A.marks A.marks long.marks (λ c q m. below c q (marked-within fits c q m)) (replicate 128 0) refl (λ c l. get_or-replicate 128 c 0 0 l)
