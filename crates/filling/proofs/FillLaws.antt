-- The lent tables before the first step and behind the last. Assumes nothing.
use Rattle.std.specs.Prelude.{ℕ, ◌+◌, ◌*◌, ◌≤◌, ◌<◌, ◌≡◌, refl, List, [], ◌∷◌, length, set, replicate, Some}
use Rattle.std.proofs.Common.{sym, ap, subst, ◌∙◌, arith, eq-eqb, ne_eqb}
use Rattle.std.proofs.Math.Decide.{ℕ_discrete}
use Rattle.gate.specs.GateLaws.{zeros, length-cleared}
use Rattle.tuple_record.specs.Record.{set_cells, row_cells, from_in, letter_in}
use Rattle.tuple_record.specs.RecordLaws.{record-length, behind-kept, stored_row, stored-from, stored-letter}
use Rattle.row_index.specs.Index.{Added}
use Rattle.automaton.specs.Automaton.{Automaton, Fits}
use Rattle.gate.specs.Gate.{cleared}
use Rattle.colour.specs.Colour.{neutral}
use Rattle.sets.specs.Sets.{is_empty}
use Rattle.tuple.specs.Step.{Tuple, unless_empty, closed, first}
use Rattle.tuple.specs.Row.{row}
use Rattle.numbering.specs.Numbering.{MoreThan, TupleCells}
use Rattle.numbering.specs.Explore.{found}
use Rattle.numbering.proofs.NumberingLaws.{found_all, found-more}
use Rattle.expanding.specs.Tables.{TrackerTables, tracker_tables, EnoughForTracker}
use Rattle.expanding.specs.TablesLaws.{room-alike}
use Rattle.expanding.specs.Expand.{Filled}
use Rattle.filling.specs.TrackerTables.{cleared_tracker, Fitted}
use Rattle.filling.specs.Fill.{first_cells, first_way, Filling, Fills}

-- BEFORE THE FIRST STEP

first-row : (n x : ℕ) → set (set (replicate row_cells 0) 0 x) set_cells (2 * n + 1) ≡ row (record { sets = closed (x ∷ []); colour = neutral n })
unfolding row closed unless_empty
first-row n x = by (ℕ_discrete x 0)
  where
    by : Dec (x ≡ 0) → set (set (replicate row_cells 0) 0 x) set_cells (2 * n + 1) ≡ row (record { sets = unless_empty (is_empty x) x []; colour = neutral n })
    by (yes e) = rw (eq-eqb x 0 e, e)
    by (no e) = rw (ne_eqb x 0 e)

first-cells : (A : Automaton) → first_cells A.n A.initial ≡ row (first A)
unfolding first first_cells
first-cells A = first-row A.n A.initial

module _ (A : Automaton) (fits : Fits A) (room : ℕ) (v : TrackerTables) (r : EnoughForTracker room v) (tuples' head' link' : List ℕ)
    (a : Added (cleared v.tuples) tuples' 0 (row (first A)) first_way head' link') where
  first-length : length tuples' ≡ length v.tuples
  first-length = record-length a.is ∙ length-cleared v.tuples

  first-tuples : TupleCells A (first A ∷ []) tuples'
  first-tuples = record {
    row = λ t h. let e : t ≡ 0 = omega arith in rw e (stored_row a.is);
    way = λ t h.
        (let e : t ≡ 0 = omega arith in
        record {
          first = λ z. (ap (from_in tuples') e ∙ stored-from a.is, ap (letter_in tuples') e ∙ stored-letter a.is);
          found = λ k. absurd (omega arith);
        });
    zero = λ i h. behind-kept a.is i h ∙ zeros (length v.tuples) i;
  }

  filled-first : Filled A room 0 1 tuples' (cleared v.nexts) head' link'
  unfolding found
  filled-first =
      record {
        fits = fits;
        room_fits = room-alike first-length (length-cleared v.nexts) r;
        count = refl;
        room-is = r.some;
        tuples-are = first-tuples;
        nexts-are = record {
          next = λ d h. absurd (omega arith);
          zero = λ d z. zeros (length v.nexts) d;
        };
        index = a.indexed;
      }

-- the first tuple in cleared tables
pub filled-begins : {A : Automaton} {room : ℕ} {v : TrackerTables} → Filling A room v → {tuples' head' link' : List ℕ}
    → Added v.tuples tuples' 0 (first_cells A.n A.initial) first_way head' link' → Filled A room 0 1 tuples' v.nexts head' link'
filled-begins {A} {room} {v} g {tuples'} {head'} {link'} a =
    rw g.nexts
    (filled-first A g.fits room v g.room_fits tuples' head' link'
    (subst (λ (l : List ℕ). Added (cleared v.tuples) tuples' 0 l first_way head' link') (first-cells A)
    (subst (λ (l : List ℕ). Added l tuples' 0 (first_cells A.n A.initial) first_way head' link') g.tuples a)))

-- BEHIND THE LAST STEP

module _ {A : Automaton} {room c m : ℕ} {tuples nexts head link : List ℕ} (f : Filled A room c m tuples nexts head link) where
  abbrev ts : List Tuple
  ts = found A c

  -- every step of the tuples is taken
  filled-all : (v : TrackerTables) → length v.tuples ≡ length tuples → length v.nexts ≡ length nexts → 8 * m ≤ c → Fitted A room v (tracker_tables tuples nexts) m
  filled-all v l g h =
      let p = f.count in
      let k = f.fits.range.3 in
      record {
        list = ts;
        count-is = p;
        room-is = f.room-is;
        holds = record {
          numbering = found_all A c k (omega arith);
          tuples = f.tuples-are;
          nexts = record {
            next = λ d j q. f.nexts-are.next d (omega arith) j q;
            zero = λ d z. f.nexts-are.zero d (λ i j q. z j q);
          };
          same-tuples = sym l;
          same-nexts = sym g;
        };
      }

-- WHAT FILLING ANSWERS

pub fills-over : {A : Automaton} {room : ℕ} (c : ℕ) → room < length (found A c) → MoreThan A room
fills-over {A} {room} c k = found-more A c room k

pub fills-all : {A : Automaton} {room c m : ℕ} {tuples nexts head link : List ℕ} → Filled A room c m tuples nexts head link
    → (v : TrackerTables) → length v.tuples ≡ length tuples → length v.nexts ≡ length nexts → 8 * m ≤ c → Fills A room v (tracker_tables tuples nexts) (Some m)
fills-all f v p q h = filled-all f v p q h

-- IN TABLES WITH ANY CONTENTS

pub cleared-filling : (A : Automaton) (room : ℕ) (v : TrackerTables) → Fits A → EnoughForTracker room v → Filling A room (cleared_tracker v)
cleared-filling A room v f r = record {
  fits = f;
  room_fits = room-alike (length-cleared v.tuples) (length-cleared v.nexts) r;
  tuples = rw (length-cleared v.tuples);
  nexts = rw (length-cleared v.nexts);
}

-- the tables' former contents do not matter
pub cleared-fitted : (A : Automaton) (room : ℕ) (v w : TrackerTables) (m : ℕ) → Fitted A room (cleared_tracker v) w m → Fitted A room v w m
cleared-fitted A room v w m f =
    let h = f.holds in
    record {
      list = f.list;
      count-is = f.count-is;
      room-is = f.room-is;
      holds = record {
        numbering = h.numbering;
        tuples = h.tuples;
        nexts = h.nexts;
        same-tuples = h.same-tuples ∙ length-cleared v.tuples;
        same-nexts = h.same-nexts ∙ length-cleared v.nexts;
      };
    }
