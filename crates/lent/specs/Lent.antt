-- The lent tables of the calls on a sheet: when they are long enough, and what the questions leave in them.
use Rattle.std.specs.Prelude.{ℕ, ◌-◌, ◌≤◌, ◌<◌, ◌≡◌, List, ◌++◌, length, replicate}
use Rattle.gate.specs.Gate.{refusal, cleared}
use Rattle.gate.specs.declared.Refusal.{Refusal}
use Rattle.automaton.specs.Automaton.{Automaton, TransitionSets, transition_sets, graph_of, Fits, FirstNo}
use Rattle.automaton.specs.Graph.{Graph}
use Rattle.automaton.specs.Endless.{MeetingWitness}

-- a word and two walks
pub record WitnessTables : Type 0 where
  pub word : List ℕ
  pub one : List ℕ
  pub other : List ℕ

abbrev pub witness_tables : List ℕ → List ℕ → List ℕ → WitnessTables
witness_tables word one other = record { word = word; one = one; other = other }

-- "a witness of 136 letters and two walks of 137 states"
pub record EnoughForWitness (witness : WitnessTables) : Type 0 where
  pub word : 136 ≤ length witness.word
  pub one : 137 ≤ length witness.one
  pub other : 137 ≤ length witness.other

-- "128 successor sets"; R-9: "128 sets of marked successors .. are lent beside them"
pub record EnoughForSets (sets : TransitionSets) : Type 0 where
  pub cells : 128 ≤ length sets.successors
  pub marks : 128 ≤ length sets.marks

-- QUESTION 1 of a call that takes a sheet: "Are the lent tables long enough (128 successor sets; a witness ..)?"
pub record EnoughForSheet (sets : TransitionSets) (witness : WitnessTables) : Type 0 where
  pub tables : EnoughForSets sets
  pub long : EnoughForWitness witness

-- each table all zero, as long as before
abbrev pub cleared_witness : WitnessTables → WitnessTables
cleared_witness before = record { word = cleared before.word; one = cleared before.one; other = cleared before.other }

abbrev pub cleared_sets : TransitionSets → TransitionSets
cleared_sets before = transition_sets (cleared before.successors) (cleared before.marks)

-- tables that are long enough and all zero
pub record ClearedLong (sets : TransitionSets) : Type 0 where
  pub long : EnoughForSets sets
  pub zeros : sets ≡ cleared_sets sets

-- a table of 128 sets, in a lent one: zero behind it
abbrev pub lent_table : List ℕ → List ℕ → List ℕ
lent_table sets table = sets ++ replicate (length table - 128) 0

-- an automaton's successor sets and marks, in lent tables
abbrev pub lent_sets : Automaton → TransitionSets → TransitionSets
lent_sets A before = transition_sets (lent_table A.table before.successors) (lent_table A.marks before.marks)

-- each table as long as before
pub record SameLengths (before after : WitnessTables) : Type 0 where
  pub word : length after.word ≡ length before.word
  pub one : length after.one ≡ length before.one
  pub other : length after.other ≡ length before.other

-- refusal 10 of the graph G, with its witness in the tables
pub record Meets (G : Graph) (before after : WitnessTables) (r : Refusal) : Type 0 where
  pub number : r.number ≡ 10
  pub line : r.line ≡ 0
  pub some : 0 < r.length
  pub witness : MeetingWitness G r.length after.word after.one after.other
  pub lengths : SameLengths before after

-- QUESTIONS 4, 7, 8 AND 10 on a sheet handed over as numbers: the first that is answered no refuses with r
pub data NumbersRefuse (A : Automaton) (before after : WitnessTables) (r : Refusal) : Type 0 where
  unfit : (number : ℕ) → FirstNo A number → r ≡ refusal number 0 → after ≡ cleared_witness before → NumbersRefuse A before after r
  meeting : Fits A → Meets (graph_of A) before after r → NumbersRefuse A before after r
