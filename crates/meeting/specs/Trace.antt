-- A shortest meeting, written into the tables from its last letter back to the initial states.
use Rattle.std.specs.Prelude.{ℕ, suc, ◌+◌, ◌/◌, ◌≤◌, ◌<◌, ◌≡◌, List, length, get_or, set}
use Rattle.sets.specs.Sets.{Member}
use Rattle.automaton.specs.Graph.{Graph, Edge}
use Rattle.lent.specs.Lent.{WitnessTables, witness_tables}
use Rattle.queue.specs.Queue.{pair, origin, depth, one, other}
use Rattle.pair_search.specs.Search.{AllJustified}

-- the tables with letter l and the states of pair e at time t
abbrev pub noted : WitnessTables → ℕ → ℕ → ℕ → WitnessTables
noted v t l e = witness_tables (set v.word t l) (set v.one t (one e)) (set v.other t (other e))

-- the tables with state z behind letter d of both walks
abbrev pub ended : WitnessTables → ℕ → ℕ → WitnessTables
ended v d z = witness_tables v.word (set v.one (d + 1) z) (set v.other (d + 1) z)

-- the end of a walk, from time t to d + 1, with zeros behind
pub record Tail (G : Graph) (d t : ℕ) (word states : List ℕ) : Type 0 where
  pub goes : (s : ℕ) → t ≤ s → s ≤ d → Edge G (get_or word s 0) (get_or states s 0) (get_or states (suc s) 0)
  pub behind : (i : ℕ) → suc d < i → get_or states i 0 ≡ 0
  pub behind-word : (i : ℕ) → d < i → get_or word i 0 ≡ 0

-- the ends of two walks that are in pair i at time t, in different states at time d, and then in one state that counts
pub record Traced (G : Graph) (counts : ℕ) (T : List ℕ) (head d t i : ℕ) (v : WitnessTables) : Type 0 where
  pub before : i ≤ head
  pub deep : depth (pair T i) ≡ t
  pub low : t ≤ d
  pub state-one : get_or v.one t 0 ≡ one (pair T i)
  pub state-other : get_or v.other t 0 ≡ other (pair T i)
  pub tail-one : Tail G d t v.word v.one
  pub tail-other : Tail G d t v.word v.other
  pub apart : get_or v.one d 0 ≡ get_or v.other d 0 → ⊥
  pub shared : get_or v.one (suc d) 0 ≡ get_or v.other (suc d) 0
  pub counted : Member counts (get_or v.one (suc d) 0)

-- each of the pairs up to head that lies deeper than 0 comes from an earlier one, a letter less deep
abbrev pub Linked : List ℕ → ℕ → Type 0
Linked T head = (i : ℕ) → i ≤ head → 0 < depth (pair T i) → (origin T i / 8 < i) × (depth (pair T i) ≡ suc (depth (pair T (origin T i / 8))))

-- the walks that end in pair head, d letters deep, can be traced into tables v
pub record Traceable (T : List ℕ) (head d : ℕ) (v : WitnessTables) : Type 0 where
  pub size : length T ≡ 528
  pub some : head < 256
  pub linked : Linked T head
  pub deep : depth (pair T head) ≡ d
  pub word : d < length v.word
  pub one : d < length v.one
  pub other : d < length v.other

-- tables v with the last letter of a meeting have become w, with the letters from t on: whatever the graph
abbrev pub Leads : List ℕ → ℕ → ℕ → ℕ → ℕ → WitnessTables → WitnessTables → Type 0
Leads T head d t i v w = (G : Graph) (counts : ℕ) → AllJustified G T (suc head) → Traced G counts T head d d head v → Traced G counts T head d t i w
