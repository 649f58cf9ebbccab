-- Document 01: "A sheet handed over as numbers (n, k, initial set, must-recur set, 128 successor sets, only read) goes through 1, then 4, 7
-- and 8 with line 0, then 10 and 11." R-9: it "names its edition", and has "128 sets of marked successors" beside the others, only read too. Here all
-- but 11: what the answer says, and what is in the witness tables then.
use Rattle.std.specs.Prelude.{ℕ, ◌≡◌, ◌⊎◌, Err, Ok, Option, Result}
use Rattle.gate.specs.declared.Refusal.{Refusal}
use Rattle.gate.specs.Gate.{refusal}
use Rattle.automaton.specs.Automaton.{Automaton, sets_of_automaton, graph_of, Fits}
use Rattle.automaton.specs.Endless.{EndlessFrom, MeetingFree}
use Rattle.automaton.specs.Graph.{Graph}
use Rattle.lent.specs.Lent.{WitnessTables, EnoughForSheet, cleared_witness, NumbersRefuse}
use Rattle.meeting.specs.Answer.{Answered}

-- QUESTION 10 answered: none, or the length of a shortest word whose two walks meet at a state that begins an endless path
abbrev pub AnsweredTen : Graph → WitnessTables → WitnessTables → Option ℕ → Type 0
AnsweredTen G before after r = Answered G (EndlessFrom G) before after r

-- "Refusal 1 asked first touches nothing"; 4, 7, 8 and 10 are the next questions; "On success" the witness tables have no meaning: all zero
abbrev pub Checks : Automaton → WitnessTables → WitnessTables → Result Unit Refusal → Type 0
Checks A before after (Err r) =
    ((EnoughForSheet (sets_of_automaton A) before → ⊥) × (r ≡ refusal 1 0) × (after ≡ before))
    ⊎ (EnoughForSheet (sets_of_automaton A) before × NumbersRefuse A before after r)
Checks A before after (Ok tt) = EnoughForSheet (sets_of_automaton A) before × Fits A × MeetingFree (graph_of A) × (after ≡ cleared_witness before)

-- the same once the tables are long enough
abbrev pub ChecksLong : Automaton → WitnessTables → WitnessTables → Result Unit Refusal → Type 0
ChecksLong A before after (Err r) = NumbersRefuse A before after r
ChecksLong A before after (Ok tt) = Fits A × MeetingFree (graph_of A) × (after ≡ cleared_witness before)
