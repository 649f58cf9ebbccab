-- The withdrawals of a sheet by their letters, and as cells: the superseding letter of each letter, 0 for none.
use Rattle.std.specs.Prelude.{ℕ, ◌≡◌, List, [], ◌∷◌, get_or, set, replicate}
use Rattle.automaton.specs.Graph.{Graph, Edge}
use Rattle.format.specs.Format.{Withdrawal, Withdrawn, InForce}

-- the withdrawal of a letter, and the letter that supersedes it
abbrev pub withdrawn_by : ℕ → ℕ → Withdrawal
withdrawn_by letter by = record { letter = letter; by = by }

-- cells with some withdrawals more
unfoldable pub withdrawn_in : List ℕ → List Withdrawal → List ℕ
withdrawn_in cells [] = cells
withdrawn_in cells (w ∷ ws) = withdrawn_in (set cells w.letter w.by) ws

-- the cells of some withdrawals
unfoldable pub superseding_of : List Withdrawal → List ℕ
superseding_of ws = withdrawn_in (replicate 8 0) ws

-- cells tell which letters are withdrawn
pub record TellWithdrawn (ws : List Withdrawal) (cells : List ℕ) : Type 0 where
  pub in-force : (l : ℕ) → get_or cells l 0 ≡ 0 → InForce ws l
  pub withdrawn : (l : ℕ) → (get_or cells l 0 ≡ 0 → ⊥) → Withdrawn ws l

-- QUESTION 16 on numbers: "a successor on a letter that this file withdraws is 16 too". There is none
abbrev pub EdgesInForce : Graph → List Withdrawal → Type 0
EdgesInForce G ws = (l q r : ℕ) → Edge G l q r → InForce ws l
