-- Document 01, "One step of the tuple", point by point.
use Rattle.std.specs.Prelude.{ℕ, zero, suc, min, ◌≤◌, ◌<◌, ◌≡◌, Bool, true, false, not, ◌&&◌, List, [], ◌∷◌, ◌++◌, map, length, get_or}
use Rattle.sets.specs.Sets.{Member, union_of, inter_of, minus_of, is_empty, is_within}
use Rattle.automaton.specs.Automaton.{Automaton}
use Rattle.automaton.specs.declared.Edition.{Edition}
use Rattle.automaton.specs.declared.Edition.TheVariants.{StateBased, TransitionBased}
use Rattle.automaton.specs.Successors.{successors_of}
use Rattle.colour.specs.Colour.{neutral, is_emptied, colour_at, dead_or}

-- "A tuple is n sets, the non-empty ones first, and the colour of the step that entered it." Listed are the non-empty sets: their
-- count is the list's length, and each place behind them is empty. "Tuples are equal when sets and colour are."
pub record Tuple : Type 0 where
  pub sets : List ℕ
  pub colour : ℕ

-- the set at place i
abbrev pub place_set : List ℕ → ℕ → ℕ
place_set sets i = get_or sets i 0

-- 1. "Replace each set by its successors."
abbrev successors_each : Automaton → ℕ → List ℕ → List ℕ
successors_each A l sets = map (successors_of A.table l) sets

-- 2. SHEET: "the must-recur states in the new set 0"; R-9, SHT-2: "the states reached from set 0 over a marked transition". x is set 0 before the step.
abbrev pub recurrent_by : Edition → Automaton → ℕ → ℕ → ℕ
recurrent_by StateBased A l x = inter_of (successors_of A.table l x) A.recurring
recurrent_by TransitionBased A l x = successors_of A.marks l x

-- these are the targets of the recurrent transitions from x: `Recurrent` in automaton/specs/Reading.antt (`recurrent-is` in PlaceLaws)
abbrev pub recurrent : Automaton → ℕ → ℕ → ℕ
recurrent A l x = recurrent_by A.edition A l x

-- "At place p, the count of non-empty sets before the step, put" these. "This may be place n, a spare." The places behind it are
-- empty, and change nothing (EmptyPlaces.antt).
unfoldable pub places : Automaton → ℕ → List ℕ → List ℕ
places A l sets = successors_each A l sets ++ (recurrent A l (place_set sets 0) ∷ [])

-- the members of all of these places
unfoldable pub union_all : List ℕ → ℕ
union_all [] = 0
union_all (x ∷ later) = union_of x (union_all later)

-- 3. "place i is marked if its set is non-empty and each member lies in some later place", where later has the members of those
unfoldable pub is_marked : ℕ → ℕ → Bool
is_marked x later = not (is_empty x) && is_within x later

-- x removed from each of these places
abbrev pub minus_each : ℕ → List ℕ → List ℕ
minus_each x places = map (λ y. minus_of y x) places

-- "if it is marked, and only then, its members are removed from all later places"
unfoldable pub removed : Bool → ℕ → List ℕ → List ℕ
removed true x later = minus_each x later
removed false x later = later

-- a place after its turn: its set, and whether it is marked
pub record Place : Type 0 where
  pub states : ℕ
  pub mark : Bool

abbrev pub place : ℕ → Bool → Place
place x m = record { states = x; mark = m }

-- "For i from 0 upward": the turns of the next k places
unfoldable pub turns : ℕ → List ℕ → List Place
turns zero sets = []
turns (suc k) [] = []
turns (suc k) (x ∷ later) =
    let m = is_marked x (union_all later) in
    place x m ∷ turns k (removed m x later)

-- the marking pass over all places
unfoldable pub pass : List ℕ → List Place
pass sets = turns (length sets) sets

-- 4. "the least of 2i+2 for marked i and 2i+1 for each i non-empty before the step and empty now; 2n+1 if there is none", over the
-- places from i on. A marked or emptied place has a colour below the neutral one.
unfoldable pub least : ℕ → ℕ → ℕ → List Place → ℕ
least n p i [] = neutral n
least n p i (x ∷ later) = min (colour_at n i x.mark (is_emptied p i x.states)) (least n p (suc i) later)

-- the set at place i after the pass, before closing up
abbrev pub set_at_place : List Place → ℕ → ℕ
set_at_place w i = (get_or w i (place 0 false)).states

-- "1 if set 0 is empty"
unfoldable pub colour_of : ℕ → ℕ → List Place → ℕ
colour_of n p w = dead_or (is_empty (set_at_place w 0)) (least n p 0 w)

-- 5. "Close up the gaps, keeping order."
unfoldable pub unless_empty : Bool → ℕ → List ℕ → List ℕ
unless_empty true x sets = sets
unless_empty false x sets = x ∷ sets

unfoldable pub closed : List ℕ → List ℕ
closed [] = []
closed (x ∷ sets) = unless_empty (is_empty x) x (closed sets)

unfoldable pub close_up : List Place → List ℕ
close_up w = closed (map (λ x. x.states) w)

-- "The first tuple: the initial states, then empty sets, colour 2n+1."
unfoldable pub first : Automaton → Tuple
first A = record { sets = closed (A.initial ∷ []); colour = neutral A.n }

-- "On a letter": the tuple that the step from u on letter l enters. Its colour is read before closing up.
unfoldable pub next : Automaton → ℕ → Tuple → Tuple
next A l u =
    let w = pass (places A l u.sets) in
    record { sets = close_up w; colour = colour_of A.n (length u.sets) w }

-- the tuple after the first t letters of the endless word w
unfoldable pub run : Automaton → (ℕ → ℕ) → ℕ → Tuple
run A w zero = first A
run A w (suc t) = next A (w t) (run A w t)

-- the colour entered on letter t: that of the step from tuple t to tuple t + 1
abbrev pub colour_entered : Automaton → (ℕ → ℕ) → ℕ → ℕ
colour_entered A w t = (run A w (suc t)).colour

-- what holds of each tuple that a step enters
pub record Formed (A : Automaton) (u : Tuple) : Type 0 where
  -- "At most n sets are non-empty at the end."
  pub few : length u.sets ≤ A.n
  pub full : (i : ℕ) → i < length u.sets → place_set u.sets i ≡ 0 → ⊥
  pub states : (i q : ℕ) → Member (place_set u.sets i) q → q < A.n
  pub most-colour : u.colour ≤ neutral A.n
