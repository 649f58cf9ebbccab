-- Document 01, question 10, "Is the sheet free of meeting walks? No: 10, with the walks", and how its answer is handed over.
use Rattle.std.specs.Prelude.{ℕ, ◌≤◌, ◌<◌, ◌≡◌, length, None, Option, Some}
use Rattle.automaton.specs.Graph.{Graph, GraphFits}
use Rattle.automaton.specs.Meeting.{Free, Witness}
use Rattle.lent.specs.Lent.{WitnessTables, EnoughForWitness, cleared_witness, SameLengths}

-- the questions before are answered yes, and the tables are lent, long enough and all zero
pub record Asked (G : Graph) (witness : WitnessTables) : Type 0 where
  pub fits : GraphFits G
  pub cells : 128 ≤ length G.table
  pub long : EnoughForWitness witness
  pub zeros : witness ≡ cleared_witness witness

-- none for yes, and else the length of the witness word, with the witness in the tables
pub record Answered (G : Graph) (Counts : ℕ → Type 0) (before after : WitnessTables) (r : Option ℕ) : Type 0 where
  pub free : r ≡ None → Free G Counts
  pub kept : r ≡ None → after ≡ before
  pub witness : (d : ℕ) → r ≡ Some d → (0 < d) × Witness G Counts d after.word after.one after.other
  pub lengths : SameLengths before after
