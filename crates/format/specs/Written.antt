-- The writing of an automaton with names, in its edition: composed letters, transitions in order.
use Rattle.std.specs.Prelude.{ℕ, zero, suc, ◌/◌, ◌%◌, List, [], ◌∷◌, ◌++◌, map, get_or}
use Rattle.names.specs.Name.{compose}
use Rattle.sets.specs.Sets.{bit}
use Rattle.automaton.specs.Automaton.{Automaton}
use Rattle.automaton.specs.declared.Edition.{Edition}
use Rattle.automaton.specs.declared.Edition.TheVariants.{StateBased, TransitionBased}
use Rattle.format.specs.Format.{State, Transition, Withdrawal, Sheet, lines, end_line}
use Rattle.format.specs.Numbers.{where_member}

-- the flags of state q in two sets
abbrev pub state_of : ℕ → ℕ → ℕ → State
state_of initial recurring q = record { initial = bit initial q; recurring = bit recurring q }

-- the states from q on, of which there are n
unfoldable pub states_of : ℕ → ℕ → ℕ → ℕ → List State
states_of initial recurring q zero = []
states_of initial recurring q (suc n) = state_of initial recurring q ∷ states_of initial recurring (suc q) n

-- "strictly ascending by these three": there are 2048 places, 16 to a cell of the table
abbrev pub most_transitions : ℕ
most_transitions = 2048

-- the longest text of a sheet: 12 for the first line, 8 names of 30, 16 states of 11 or 8, 2,048 transitions of 11 or 14, 4 for END
abbrev pub longest_text : Edition → ℕ
longest_text StateBased = 22960
longest_text TransitionBased = 29056

-- is there a member at place i of a table
abbrev pub bit_at : List ℕ → ℕ → ℕ
bit_at table i = bit (get_or table (i / 16) 0) (i % 16)

-- the transition at place i, with its mark
abbrev pub placed : List ℕ → ℕ → Transition
placed marks i = record { from = i / 128; letter = i / 16 % 8; to = i % 16; mark = bit_at marks i }

-- the transitions of a table, with their marks, at the places from i on, of which there are `left`
unfoldable pub transitions_of : List ℕ → List ℕ → ℕ → ℕ → List Transition
transitions_of table marks i zero = []
transitions_of table marks i (suc left) = where_member (bit_at table i) (placed marks i) (transitions_of table marks (suc i) left)

-- the sheet of an automaton's numbers, with names and withdrawals
unfoldable pub sheet_of : Automaton → List (List ℕ) → List Withdrawal → Sheet
sheet_of A names ws = record {
  edition = A.edition;
  n = A.n;
  k = A.k;
  names = names;
  withdrawals = ws;
  states = states_of A.initial A.recurring 0 A.n;
  transitions = transitions_of A.table A.marks 0 most_transitions;
}

-- the sheet that is written: its names are those that are given, composed; "The writer keeps the `W` lines of the file that gives the names"
unfoldable pub written_sheet : Automaton → List (List ℕ) → List Withdrawal → Sheet
written_sheet A names ws = sheet_of A (map compose names) ws

-- the text that is written
unfoldable pub written : Automaton → List (List ℕ) → List Withdrawal → List ℕ
written A names ws = lines (written_sheet A names ws) ++ end_line
