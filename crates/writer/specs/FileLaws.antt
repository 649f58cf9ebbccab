-- What is written is a sheet file: each line answers its question yes, and it is no longer than the longest text of its edition. Assumes nothing.
use Prim.Native.Nat.{ℕ, zero, suc, ◌+◌, ◌*◌, ◌/◌, ◌%◌, ◌≤◌}
use Rattle.std.specs.Prelude.{◌≡◌, length, get_or}
use Rattle.std.proofs.Math.Path.{refl}
use Rattle.std.proofs.Common.{sym, ◌∙◌, subst, arith}
use mathlib.Core.List.{List, [], ◌∷◌, ◌++◌, map, map-append}
use Rattle.std.proofs.lemmas.List.{length-map}
use Rattle.names.specs.Name.{compose}
use Rattle.names.specs.NameLaws.{composed-name, compose-idempotent}
use Rattle.sets.specs.Sets.{bit, Member}
use Rattle.sets.specs.SetLaws.{bit-lt, bit-zero}
use Rattle.automaton.specs.Automaton.{Automaton, graph_of, RecurringFits, MarkFits, Fits}
use Rattle.automaton.specs.Graph.{Edge}
use Rattle.automaton.specs.declared.Edition.{Edition}
use Rattle.automaton.specs.declared.Edition.TheVariants.{StateBased, TransitionBased}
use Rattle.automaton.specs.EdgeLaws.{edge_of, edge-state}
use Rattle.automaton.specs.QuestionLaws.{fits-graph}
use Rattle.format.specs.Format.{Transition, Withdrawal, most_recurring, most_mark, DistinctFrom, NamesRight, StatesRight, TransitionRight, TransitionsRight, AllInForce, Right, transition_index, FileIs}
use Rattle.format.specs.Withdrawals.{EdgesInForce}
use Rattle.format.specs.Numbers.{where_member}
use Rattle.format.specs.Written.{states_of, most_transitions, longest_text, bit_at, placed, transitions_of, sheet_of, written_sheet, written}
use Rattle.sheet_sections.specs.LengthLaws.{states_of-length}
use Rattle.sheet_sections.specs.SizeLaws.{right-longest, right-size}
use Rattle.writer.specs.Writing.{LettersRight}

-- The names

distinct-composed : (xs : List (List ℕ)) (x : List ℕ) → DistinctFrom xs x → DistinctFrom (map compose xs) (compose x)
distinct-composed [] x d = tt
distinct-composed (y ∷ ys) x d = ((λ e. d.0 (sym (compose-idempotent y) ∙ e ∙ compose-idempotent x)), distinct-composed ys x d.1)

-- names that are right are right when they are composed
names-composed : (xs earlier : List (List ℕ)) → NamesRight earlier xs → NamesRight (map compose earlier) (map compose xs)
names-composed [] earlier r = tt
names-composed (x ∷ xs) earlier r = (
  composed-name x r.0,
  distinct-composed earlier x r.1,
  subst (λ (e : List (List ℕ)). NamesRight e (map compose xs)) (map-append compose earlier (x ∷ [])) (names-composed xs (earlier ++ (x ∷ [])) r.2),
)

-- The states

module _ (e : Edition) (n initial recurring : ℕ) (fits : RecurringFits e n recurring) where
  recurring-right : (q : ℕ) → bit recurring q ≤ most_recurring e
  recurring-right q = by e fits
    where
      by : (e : Edition) → RecurringFits e n recurring → bit recurring q ≤ most_recurring e
      by StateBased f = omega (arith, bit-lt recurring q)
      by TransitionBased f = rw f (omega (arith, bit-zero q))

  states-right : (m q : ℕ) → StatesRight e (states_of initial recurring q m)
  unfolding states_of
  states-right zero q = tt
  states-right (suc m) q = ((omega (arith, bit-lt initial q), recurring-right q), states-right m (suc q))

-- The transitions

mark-right : (e : Edition) (x y r : ℕ) → MarkFits e x y → bit y r ≤ most_mark e
mark-right StateBased x y r f = rw f (omega (arith, bit-zero r))
mark-right TransitionBased x y r f = omega (arith, bit-lt y r)

module _ (A : Automaton) (fits : Fits A) where
  -- a member of a cell is a transition
  placed-edge : (i : ℕ) → Member (get_or A.table (i / 16) 0) (i % 16) → Edge (graph_of A) (i / 16 % 8) (i / 128) (i % 16)
  placed-edge i m =
      let e : 8 * (i / 128) + i / 16 % 8 ≡ i / 16 = omega arith in
      edge_of (graph_of A) (fits-graph fits) (i / 16 % 8) (i / 128) (i % 16) (omega arith) (rw e m)

  -- it lies in range, and has a mark of its edition
  right : (i least : ℕ) → least ≤ i → Member (get_or A.table (i / 16) 0) (i % 16) → TransitionRight A.edition A.n A.k least (placed A.marks i)
  right i least h m =
      let edge = placed-edge i m in
      record {
        from = edge.from;
        letter = edge.letter;
        to = edge-state (graph_of A) (fits-graph fits) (i / 16 % 8) (i / 128) (i % 16) edge;
        order = omega arith;
        mark = mark-right A.edition (get_or A.table (i / 16) 0) (get_or A.marks (i / 16) 0) (i % 16) (fits.marks (i / 16));
      }

  transitions-right : (left i least : ℕ) → least ≤ i → TransitionsRight A.edition A.n A.k least (transitions_of A.table A.marks i left)
  unfolding transitions_of
  transitions-right zero i least h = tt
  transitions-right (suc left) i least h =
      by (bit_at A.table i) refl
      (transitions-right left (suc i) least (omega arith))
      (transitions-right left (suc i) (transition_index (placed A.marks i) + 1) (omega arith))
    where
      rest : List Transition
      rest = transitions_of A.table A.marks (suc i) left

      by : (b : ℕ) → bit_at A.table i ≡ b → TransitionsRight A.edition A.n A.k least rest
          → TransitionsRight A.edition A.n A.k (transition_index (placed A.marks i) + 1) rest
          → TransitionsRight A.edition A.n A.k least (where_member b (placed A.marks i) rest)
      by zero e same after = same
      by (suc b) e same after = (right i least h (omega (arith, bit-lt (get_or A.table (i / 16) 0) (i % 16))), after)

  module _ (ws : List Withdrawal) (in-force : EdgesInForce (graph_of A) ws) where
    transitions-in-force : (left i : ℕ) → AllInForce ws (transitions_of A.table A.marks i left)
    unfolding transitions_of
    transitions-in-force zero i = tt
    transitions-in-force (suc left) i = by (bit_at A.table i) refl (transitions-in-force left (suc i))
      where
        rest : List Transition
        rest = transitions_of A.table A.marks (suc i) left

        by : (b : ℕ) → bit_at A.table i ≡ b → AllInForce ws rest → AllInForce ws (where_member b (placed A.marks i) rest)
        by zero e later = later
        by (suc b) e later =
            let edge = placed-edge i (omega (arith, bit-lt (get_or A.table (i / 16) 0) (i % 16))) in
            (in-force (i / 16 % 8) (i / 128) (i % 16) edge, later)

-- The file

module _ (A : Automaton) (fits : Fits A) (names : List (List ℕ)) (ws : List Withdrawal) (right : LettersRight A names ws) where
  written-right : Right (written_sheet A names ws)
  unfolding sheet_of written_sheet
  written-right = record {
    range = fits.range;
    names = names-composed names [] right.names;
    withdrawals = right.withdrawals;
    states = states-right A.edition A.n A.initial A.recurring fits.states.1 A.n 0;
    transitions = transitions-right A fits most_transitions 0 0 (omega arith);
    in-force = transitions-in-force A fits ws right.in-force most_transitions 0;
  }

  all-written : length (map compose names) ≡ A.k
  all-written = length-map names compose ∙ right.all-names

  -- it is no longer than the longest text of its edition, also with withdrawals, which take transitions away
  pub longest : length (written A names ws) ≤ longest_text A.edition
  unfolding written sheet_of written_sheet
  longest = right-longest (written_sheet A names ws) written-right all-written (states_of-length A.initial A.recurring A.n 0)

  -- WHAT IS WRITTEN IS THE FILE of the sheet that is written
  pub written-file : FileIs (written A names ws) (written_sheet A names ws)
  unfolding written sheet_of written_sheet
  written-file = record {
    size = right-size (written_sheet A names ws) written-right all-written (states_of-length A.initial A.recurring A.n 0);
    right = written-right;
    all-names = all-written;
    all-states = states_of-length A.initial A.recurring A.n 0;
    text = refl;
  }
