-- The numbers of a sheet: its two sets of states, its table of successor sets and its table of marked successors.
use Rattle.std.specs.Prelude.{ℕ, zero, suc, ◌+◌, ◌*◌, ◌^◌, List, [], ◌∷◌, get_or, set, replicate}
use Rattle.sets.specs.Sets.{union_of}
use Rattle.automaton.specs.Automaton.{Automaton}
use Rattle.format.specs.Format.{State, Transition, cell, Sheet}

-- the states of a list, from state q on, whose flag is 1: the sum of 2^q over them
unfoldable pub flag_set : (State → ℕ) → ℕ → List State → ℕ
flag_set flag q [] = 0
flag_set flag q (z ∷ zs) = flag z * 2 ^ q + flag_set flag (suc q) zs

-- a table of sets with state r in the set of cell c
abbrev pub inserted_at : List ℕ → ℕ → ℕ → List ℕ
inserted_at table c r = set table c (union_of (get_or table c 0) (2 ^ r))

-- a table of successor sets with one transition more
unfoldable pub inserted : List ℕ → Transition → List ℕ
inserted table t = inserted_at table (cell t) t.to

-- the table with some transitions more
unfoldable pub table_of : List ℕ → List Transition → List ℕ
table_of table [] = table
table_of table (t ∷ ts) = table_of (inserted table t) ts

-- a table of sets with state r in the set of cell c where a bit is 1
abbrev pub inserted_where : ℕ → List ℕ → ℕ → ℕ → List ℕ
inserted_where zero table c r = table
inserted_where (suc b) table c r = inserted_at table c r

-- a transition in front of others where a bit is 1
abbrev pub where_member : ℕ → Transition → List Transition → List Transition
where_member zero t ts = ts
where_member (suc b) t ts = t ∷ ts

-- the marked ones among some transitions
unfoldable pub marked_of : List Transition → List Transition
marked_of [] = []
marked_of (t ∷ ts) = where_member t.mark t (marked_of ts)

-- the table of some transitions
abbrev pub sets_from : List Transition → List ℕ
sets_from ts = table_of (replicate 128 0) ts

-- a sheet as numbers
unfoldable pub numbers : Sheet → Automaton
numbers σ = record {
  edition = σ.edition;
  n = σ.n;
  k = σ.k;
  initial = flag_set (λ z. z.initial) 0 σ.states;
  recurring = flag_set (λ z. z.recurring) 0 σ.states;
  table = sets_from σ.transitions;
  marks = sets_from (marked_of σ.transitions);
}
