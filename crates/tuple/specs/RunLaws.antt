-- The tuples along an endless word are a run in the sense of the theory. Assumes nothing.
use Prim.Native.Nat.{ℕ, suc, ◌+◌, ◌≤◌, ◌<◌}
use Rattle.std.specs.Prelude.{◌≡◌, refl, ◌↔◌, List, length}
use Rattle.std.proofs.Common.{subst, arith}
use Rattle.std.proofs.Math.Decide.{le_ind}
use Rattle.sets.specs.Sets.{Member}
use Rattle.sets.specs.SetLaws.{some-member}
use Rattle.automaton.specs.Automaton.{Automaton, graph_of, Fits}
use Rattle.automaton.specs.Graph.{Edge}
use Rattle.automaton.specs.Meeting.{Walk}
use Rattle.theory.specs.Run.{Run}
use Rattle.theory.proofs.Basic.{is-reached, reaches}
use Rattle.automaton.specs.Reading.{Recurrent}
use Rattle.automaton.proofs.RecurrenceLaws.{recurrent-dec}
use Rattle.tuple.specs.Step.{colour_entered, place_set, places, Place, pass, next, run}
use Rattle.tuple.specs.PassLaws.{In, front, After, Marked, kept, gone, mark-some, mark-in, mark-out, turns-length}
use Rattle.tuple.specs.CloseLaws.{rank, rank-some, rank-none, move, move⁻, dec-place}
use Rattle.tuple.specs.ColourLaws.{col-mark, col-gone, col-pos, col-top, col-even, col-odd}
use Rattle.tuple.specs.PlaceLaws.{places-old, places-old⁻, places-new, places-new⁻, places-none, places-length}
use Rattle.tuple.specs.TupleLaws.{run-formed, first-in, first_member}

-- from equal tuples on, over a word that repeats, the tuples repeat
pub run-repeats : (A : Automaton) (w : ℕ → ℕ) (T d : ℕ) → ((t : ℕ) → T ≤ t → w (t + suc d) ≡ w t) → run A w (T + suc d) ≡ run A w T
    → (t : ℕ) → T ≤ t → run A w (t + suc d) ≡ run A w t
unfolding run
run-repeats A w T d word again t l =
    le_ind (λ t. run A w (t + suc d) ≡ run A w t) again
    (λ t l h. let e : suc t + suc d ≡ suc (t + suc d) = omega arith in rw (e, word t l, h)) t l

module _ {A : Automaton} (fits : Fits A) (w : ℕ → ℕ) (letters : (t : ℕ) → w t < A.k) where
  -- the places of step t before the marking pass, and after it
  abbrev before : ℕ → List ℕ
  before t = places A (w t) (run A w t).sets

  abbrev after : ℕ → List Place
  after t = pass (before t)

  same_length : (t : ℕ) → length (before t) ≤ length (before t)
  same_length t = omega arith

  one_more : (t i : ℕ) → i < length (run A w t).sets → i < length (after t)
  unfolding pass
  one_more t i l = omega (arith, turns-length (length (before t)) (before t) (same_length t), places-length A (w t) (run A w t).sets)

  pub is-run : Run A.n (λ t. Edge (graph_of A) (w t)) (λ t. Recurrent A (w t)) (λ t. In (run A w t).sets) (λ t. In (before t)) (λ t. After (after t))
      (λ t. Marked (after t)) (λ t. length (run A w t).sets) (colour_entered A w) (λ t j. rank j (after t))
  unfolding run next pass rank
  is-run = record {
    sub = λ t q r e. e.edge;
    dec_m = λ t. recurrent-dec A (w t);
    first = λ k q h. (first-in A k q h).0;
    front = λ t. front (run A w t).sets;
    full = λ t j h. some-member (place_set (run A w t).sets j) ((run-formed fits w letters t).full j h);
    room = λ t. (run-formed fits w letters t).few;
    state = λ t. (run-formed fits w letters t).states;
    old = λ t. places-old fits (w t) (letters t) (run A w t).sets;
    old⁻ = λ t. places-old⁻ fits (w t) (letters t) (run A w t).sets;
    new = λ t. places-new fits (w t) (letters t) (run A w t).sets;
    new⁻ = λ t. places-new⁻ fits (w t) (letters t) (run A w t).sets;
    none = λ t. places-none fits (w t) (letters t) (run A w t).sets;
    kept = λ t. kept (length (before t)) (before t);
    gone = λ t. gone (length (before t)) (before t) (same_length t);
    mark-some = λ t. mark-some (length (before t)) (before t);
    mark-in = λ t. mark-in (length (before t)) (before t);
    mark-out = λ t. mark-out (length (before t)) (before t);
    dec = λ t. dec-place (after t);
    rank-zero = λ t. refl;
    rank-some = λ t j. rank-some j (after t);
    rank-none = λ t j. rank-none j (after t);
    move = λ t. move (after t);
    move⁻ = λ t. move⁻ (after t);
    col-mark = λ t. col-mark A.n (length (run A w t).sets) (after t);
    col-gone = λ t i l. col-gone A.n (length (run A w t).sets) (after t) i (one_more t i l) (mark-some (length (before t)) (before t)) l;
    col-pos = λ t. col-pos A.n (length (run A w t).sets) (after t);
    col-top = λ t. col-top A.n (length (run A w t).sets) (after t);
    col-even = λ t. col-even A.n (length (run A w t).sets) (after t);
    col-odd = λ t. col-odd A.n (length (run A w t).sets) (after t);
  }

  -- "At most n sets are non-empty at the end."
  pub at-most-n : (t : ℕ) → length (run A w t).sets ≤ A.n
  at-most-n t = (run-formed fits w letters t).few

  -- set 0 holds the states in which walks on the letters read so far end
  pub set-zero : (t q : ℕ) → Member (place_set (run A w t).sets 0) q ↔ ((x : ℕ → ℕ) × Walk (graph_of A) w t x × (x t ≡ q))
  unfolding run
  set-zero t q = (to, from)
    where
      to : Member (place_set (run A w t).sets 0) q → (x : ℕ → ℕ) × Walk (graph_of A) w t x × (x t ≡ q)
      to h = let (x, e, s, goes) = is-reached is-run t q h in (x, record { starts = (first-in A 0 (x 0) s).1; goes = goes }, e)

      from : ((x : ℕ → ℕ) × Walk (graph_of A) w t x × (x t ≡ q)) → Member (place_set (run A w t).sets 0) q
      from (x, h, e) = subst (λ (z : ℕ). Member (place_set (run A w t).sets 0) z) e (reaches is-run t x (first_member A (x 0) h.starts) h.goes)
