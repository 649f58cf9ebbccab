-- Document 01: "A sheet is a Büchi table with n states (1 to 16, numbered from 0) and k letters (1 to 8, numbered from 0; a letter is a
-- kind of job). It has a set of initial states, possibly empty, .. and transitions (from, letter, to)."
use Rattle.std.specs.Prelude.{ℕ, ◌+◌, ◌*◌, ◌/◌, ◌%◌, ◌≤◌, ◌<◌, ◌≡◌, List, get_or}
use Rattle.sets.specs.Sets.{Member}
use Rattle.automaton.specs.declared.GraphNumbers.{GraphNumbers}

-- a sheet without its edition, its must-recur states and its marks: all that walks, meetings and readings ask for
pub record Graph : Type 0 where
  pub n : ℕ
  pub k : ℕ
  pub initial : ℕ
  pub table : List ℕ

-- the same from a call's arguments
abbrev pub graph : GraphNumbers → List ℕ → Graph
graph g table = record { n = g.n; k = g.k; initial = g.initial; table = table }

-- "The successor set of state q on letter l is number 8q+l of its table."
abbrev pub successor_set : List ℕ → ℕ → ℕ → ℕ
successor_set table q l = get_or table (8 * q + l) 0

-- a transition (from q, letter l, to r); letters are the k letters of the sheet
pub record Edge (G : Graph) (l q r : ℕ) : Type 0 where
  pub letter : l < G.k
  pub from : q < G.n
  pub to : Member (successor_set G.table q l) r

-- "Are n and k in range? No: 4."
abbrev pub InRange : ℕ → ℕ → Type 0
InRange n k = (1 ≤ n) × (n ≤ 16) × (1 ≤ k) × (k ≤ 8)

-- every member of x is below n
abbrev pub Within : ℕ → ℕ → Type 0
Within n x = (q : ℕ) → Member x q → q < n

-- "8 means such a state in a successor set, or a cell outside n and k that is not zero"; cells behind the 128th are outside
pub record CellFits (G : Graph) (i : ℕ) : Type 0 where
  pub within : Within G.n (get_or G.table i 0)
  pub empty : (i / 8 < G.n → i % 8 < G.k → ⊥) → get_or G.table i 0 ≡ 0

abbrev pub CellsFit : Graph → Type 0
CellsFit G = (i : ℕ) → CellFits G i

-- what questions 4, 7 and 8 grant of a graph
pub record GraphFits (G : Graph) : Type 0 where
  pub range : InRange G.n G.k
  pub initial : Within G.n G.initial
  pub cells : CellsFit G
