-- The states that begin an endless path as a set, and how they are found: of all states, one that has no transition into the rest is taken away
-- until each has one.
use Rattle.std.specs.Prelude.{ℕ, ◌<◌, ◌↔◌}
use Rattle.sets.specs.Sets.{Member}
use Rattle.automaton.specs.Graph.{Graph, Edge}
use Rattle.automaton.specs.Endless.{EndlessFrom}

-- THE SET has exactly the states that begin an endless path for members
abbrev pub EndlessStates : Graph → ℕ → Type 0
EndlessStates G set = (q : ℕ) → Member set q ↔ EndlessFrom G q

-- q has a transition into a set
pub record StepsInto (G : Graph) (set q : ℕ) : Type 0 where
  pub letter : ℕ
  pub state : ℕ
  pub edge : Edge G letter q state
  pub inside : Member set state

-- a member has a transition into its set
abbrev pub Stays : Graph → ℕ → ℕ → Type 0
Stays G set q = Member set q → StepsInto G set q

-- underway: no state that begins an endless path has been taken away, and those below q stay
pub record Narrowed (G : Graph) (set q : ℕ) : Type 0 where
  pub states : (r : ℕ) → Member set r → r < G.n
  pub endless : (r : ℕ) → EndlessFrom G r → Member set r
  pub stay : (r : ℕ) → r < q → Stays G set r
