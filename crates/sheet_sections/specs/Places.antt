-- The transitions of a table in the order of their places, one after the other.
use Rattle.std.specs.Prelude.{ℕ, ◌-◌, ◌/◌, ◌%◌, ◌≤◌, ◌<◌, ◌≡◌, List, get_or}
use Rattle.sets.specs.Sets.{Member}
use Rattle.format.specs.Format.{Transition}
use Rattle.format.specs.Written.{most_transitions, transitions_of}

-- the transitions at the places from i on
abbrev pub transitions_from : List ℕ → List ℕ → ℕ → List Transition
transitions_from table marks i = transitions_of table marks i (most_transitions - i)

-- a transition stands at place i
abbrev pub At : List ℕ → ℕ → Type 0
At table i = Member (get_or table (i / 16) 0) (i % 16)

-- a transition stands at place i, or i is behind the last place
pub record Stop (table : List ℕ) (i : ℕ) : Type 0 where
  pub most : i ≤ most_transitions
  pub there : i < most_transitions → At table i

-- i is the first such place from `start` on, whatever is marked
pub record NextPlace (table : List ℕ) (start i : ℕ) : Type 0 where
  pub from : start ≤ i
  pub stop : Stop table i
  pub none_before : (marks : List ℕ) → transitions_from table marks start ≡ transitions_from table marks i
