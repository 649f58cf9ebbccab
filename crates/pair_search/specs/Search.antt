-- What a breadth-first search among pairs of states knows of its queue: why each pair is there, which pairs are done, and that none of these joins.
use Rattle.std.specs.Prelude.{ℕ, suc, ◌+◌, ◌*◌, ◌/◌, ◌%◌, ◌≤◌, ◌<◌, ◌≡◌, ◌⊎◌, ◌↔◌, List, length, None, Option, Some}
use Rattle.sets.specs.Sets.{Member}
use Rattle.automaton.specs.Graph.{Graph, Edge, GraphFits, successor_set}
use Rattle.automaton.specs.Meeting.{Free, NoneShorter}
use Rattle.gate.specs.Gate.{Zero}
use Rattle.queue.specs.Queue.{pair, origin, depth, one, other, Has, Queue, AtMost, Keeps}

-- p and q are initial, on the empty word
pub record Initial (G : Graph) (d p q : ℕ) : Type 0 where
  pub deep : d ≡ 0
  pub left : Member G.initial p
  pub right : Member G.initial q

-- p and q come from one of the first count pairs, by one letter
pub record Next (G : Graph) (T : List ℕ) (count d p q o : ℕ) : Type 0 where
  pub earlier : o / 8 < count
  pub deep : d ≡ suc (depth (pair T (o / 8)))
  pub left : Edge G (o % 8) (one (pair T (o / 8))) p
  pub right : Edge G (o % 8) (other (pair T (o / 8))) q

abbrev pub Arrives : Graph → List ℕ → ℕ → ℕ → ℕ → ℕ → ℕ → Type 0
Arrives G T count d p q o = Initial G d p q ⊎ Next G T count d p q o

-- pair i is there for a reason: initial states, or a step from an earlier pair
abbrev pub Justified : Graph → List ℕ → ℕ → Type 0
Justified G T i = Arrives G T i (depth (pair T i)) (one (pair T i)) (other (pair T i)) (origin T i)

abbrev pub AllJustified : Graph → List ℕ → ℕ → Type 0
AllJustified G T count = (i : ℕ) → i < count → Justified G T i

-- a longer queue, no pair deeper than d
pub record Grown (G : Graph) (T : List ℕ) (count d : ℕ) (T' : List ℕ) (count' : ℕ) : Type 0 where
  pub queue : Queue T' count'
  pub justified : AllJustified G T' count'
  pub more : count ≤ count'
  pub keeps : Keeps T count T'
  pub most : AtMost T' count' d

-- the pairs of initial states are in the queue, those whose first state is below m
abbrev Begun : Graph → List ℕ → ℕ → ℕ → Type 0
Begun G T count m = (p q : ℕ) → p < m → Member G.initial p → Member G.initial q → Has T count 0 p q

-- a table with no pair in it
pub record Empty (T : List ℕ) : Type 0 where
  pub size : length T ≡ 528
  pub zeros : Zero T

-- the start of the queue
pub record Started (G : Graph) (T : List ℕ) (count m : ℕ) : Type 0 where
  pub queue : Queue T count
  pub justified : AllJustified G T count
  pub most : AtMost T count 0
  pub begun : Begun G T count m

-- r is y where p is a member of x, and empty where it is not
abbrev pub Guarded : ℕ → ℕ → ℕ → ℕ → Type 0
Guarded x p y r = (q : ℕ) → Member r q ↔ (Member x p × Member y q)

-- what p and q step to is in the queue at depth d, for the letters l and the states x with 16 · l + x below m
abbrev pub SuccessorsQueued : Graph → ℕ → ℕ → ℕ → List ℕ → ℕ → ℕ → Type 0
SuccessorsQueued G p q d T count m = (l x y : ℕ) → 16 * l + x < m → x < 16 → Edge G l p x → Edge G l q y → Has T count d x y

-- the whole of it, for pair i
abbrev pub Closed : Graph → List ℕ → ℕ → ℕ → Type 0
Closed G T count i = (l x y : ℕ) → Edge G l (one (pair T i)) x → Edge G l (other (pair T i)) y → Has T count (suc (depth (pair T i))) x y

-- pair head is next: every pair is at most one letter deeper
pub record Ready (G : Graph) (T : List ℕ) (count head : ℕ) : Type 0 where
  pub fits : GraphFits G
  pub cells : 128 ≤ length G.table
  pub queue : Queue T count
  pub justified : AllJustified G T count
  pub some : head < count
  pub near : AtMost T count (suc (depth (pair T head)))

-- r are the states that count to which p and q both step on l
abbrev pub Common : List ℕ → ℕ → ℕ → ℕ → ℕ → ℕ → Type 0
Common table counts p q l r = (z : ℕ) → Member r z ↔ (Member (successor_set table p l) z × Member (successor_set table q l) z × Member counts z)

-- the states of pair e differ, and on letter l both step to a state that counts
pub record JoinsOn (table : List ℕ) (counts e l : ℕ) : Type 0 where
  pub apart : one e ≡ other e → ⊥
  pub state : ℕ
  pub left : Member (successor_set table (one e) l) state
  pub right : Member (successor_set table (other e) l) state
  pub counted : Member counts state

-- pair e joins on none of the letters below l
abbrev pub NoneBelow : List ℕ → ℕ → ℕ → ℕ → Type 0
NoneBelow table counts e l = (m : ℕ) → m < l → JoinsOn table counts e m → ⊥

-- l is the least letter on which pair e joins
pub record LeastJoining (table : List ℕ) (counts e l : ℕ) : Type 0 where
  pub low : l < 8
  pub joins : JoinsOn table counts e l
  pub none : NoneBelow table counts e l

-- the least letter on which pair e joins, or none where there is none
abbrev pub Joining : List ℕ → ℕ → ℕ → Option ℕ → Type 0
Joining table counts e None = NoneBelow table counts e 8
Joining table counts e (Some l) = LeastJoining table counts e l

-- the search has come to pair head: the pairs before are done
pub record Search (G : Graph) (counts : ℕ) (T : List ℕ) (count head : ℕ) : Type 0 where
  pub queue : Queue T count
  pub justified : AllJustified G T count
  pub begun : Begun G T count 16
  pub within : head ≤ count
  pub near : head < count → AtMost T count (suc (depth (pair T head)))
  pub closed : (i : ℕ) → i < head → Closed G T count i
  pub none : (i : ℕ) → i < head → NoneBelow G.table counts (pair T i) 8

-- the search has found that pair head joins: its walks make a shortest meeting
pub record MeetingFound (G : Graph) (counts : ℕ) (T : List ℕ) (head : ℕ) : Type 0 where
  pub size : length T ≡ 528
  pub some : head < 256
  pub most : depth (pair T head) < 136
  pub justified : AllJustified G T (suc head)
  pub letter : ℕ
  pub low : letter < 8
  pub joins : JoinsOn G.table counts (pair T head) letter
  pub shortest : NoneShorter G (Member counts) (suc (depth (pair T head)))

-- none where no pair joins
abbrev pub SearchAnswers : Graph → ℕ → List ℕ → Option ℕ → Type 0
SearchAnswers G counts T None = Free G (Member counts)
SearchAnswers G counts T (Some head) = MeetingFound G counts T head
