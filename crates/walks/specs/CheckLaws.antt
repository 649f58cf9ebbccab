-- The walk check's contract, from cleared tables and the questions on the numbers. Assumes nothing.
use Rattle.std.specs.Prelude.{ℕ, ◌≡◌, refl, Err, None, Ok, Result, Some}
use Rattle.gate.specs.declared.Refusal.{Refusal}
use Rattle.std.proofs.Common.{◌∙◌, inr}
use Rattle.automaton.specs.Automaton.{Automaton, sets_of_automaton, graph_of, Fits}
use Rattle.automaton.specs.Graph.{Graph}
use Rattle.lent.specs.Lent.{WitnessTables, EnoughForSheet, cleared_witness, Meets}
use Rattle.lent.proofs.LentLaws.{tables-twice, refuse-cleared}
use Rattle.walks.specs.Check.{Checks, ChecksLong, AnsweredTen}

-- question 1 is asked first, and answered yes
pub checks-asked : (A : Automaton) (before after : WitnessTables) (c : Result Unit Refusal) → EnoughForSheet (sets_of_automaton A) before → ChecksLong A before after c → Checks A before after c
checks-asked A before after (Err r) l j = inr (l, j)
checks-asked A before after (Ok tt) l (f, x, z) = (l, f, x, z)

checks-cleared : (A : Automaton) (before after : WitnessTables) (c : Result Unit Refusal) → ChecksLong A (cleared_witness before) after c → ChecksLong A before after c
checks-cleared A before after (Err r) j = refuse-cleared before j
checks-cleared A before after (Ok tt) (f, x, z) = (f, x, z ∙ tables-twice before)

-- the tables once they are cleared
module _ (before : WitnessTables) {zeroed : WitnessTables} (e : zeroed ≡ cleared_witness before) where
  pub checked : (A : Automaton) (after : WitnessTables) (c : Result Unit Refusal) → ChecksLong A zeroed after c → ChecksLong A before after c
  checked A after c j = checks-cleared A before after c (rw e at j)

-- question 10 answered
module _ {before after : WitnessTables} where
  pub meets-answered : {G : Graph} {length : ℕ} → AnsweredTen G before after (Some length) → Meets G before after (record { number = 10; line = 0; length = length })
  meets-answered {length = length} a =
      let (some, witness) = a.witness length refl in
      record { number = refl; line = refl; some = some; witness = witness; lengths = a.lengths }

  pub free-answered : {A : Automaton} → Fits A → AnsweredTen (graph_of A) before after None → before ≡ cleared_witness before → ChecksLong A before after (Ok tt)
  free-answered f a zeros = (f, a.free refl, a.kept refl ∙ zeros)
