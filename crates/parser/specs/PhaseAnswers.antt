-- The answers of the code to what the phases of Parse give, and the facts that come with them.
use Rattle.std.specs.Prelude.{ℕ, ◌*◌, ◌≡◌, List, length, drop, Err, Ok, Result}
use Rattle.gate.specs.declared.Refusal.{Refusal}
use Rattle.gate.specs.Gate.{refusal, cleared}
use Rattle.automaton.specs.declared.Numbers.{Numbers}
use Rattle.automaton.specs.Automaton.{Automaton, TransitionSets}
use Rattle.automaton.specs.Graph.{InRange}
use Rattle.parser.specs.Parse.{Contents}
use Rattle.frame.specs.Phase.{Phase, refused, passed}
use Rattle.name_rows.specs.Rows.{HoldNames}
use Rattle.superseding.specs.Superseding.{superseding_in, with_superseding}
use Rattle.lent.specs.Lent.{cleared_sets, lent_sets}

-- an automaton's numbers but for its tables
abbrev pub numbers_of : Automaton → Numbers
numbers_of A = record { edition = A.edition; n = A.n; k = A.k; initial = A.initial; recurring = A.recurring }

-- the answer of the graph's lines, and the tables of successor sets and marks, which were t and are u then
abbrev pub GraphRead : Phase Contents → TransitionSets → TransitionSets → Result Numbers Refusal → Type 0
GraphRead (refused number line) t u r = (r ≡ Err (refusal number line)) × (u ≡ cleared_sets t)
GraphRead (passed c) t u r = (r ≡ Ok (numbers_of c.numbers)) × (u ≡ lent_sets c.numbers t)

-- that of all lines behind the names; with it the rows, which were `old` and are `rows` then: with the superseding letters in their cells
abbrev pub NumbersRead : Phase Contents → TransitionSets → TransitionSets → List ℕ → List ℕ → Result Numbers Refusal → Type 0
NumbersRead (refused number line) t u old rows r = (r ≡ Err (refusal number line)) × (u ≡ cleared_sets t)
NumbersRead (passed c) t u old rows r =
    (r ≡ Ok (numbers_of c.numbers)) × (u ≡ lent_sets c.numbers t) × (length c.superseding ≡ 8) × (rows ≡ with_superseding old c.superseding)

-- that of a file, with the rows: all zero, or the file's names, its superseding letters in their cells, and everywhere else zeros
abbrev pub FileRead : Phase Contents → TransitionSets → TransitionSets → List ℕ → List ℕ → Result Numbers Refusal → Type 0
FileRead (refused number line) t u old rows r = (r ≡ Err (refusal number line)) × (u ≡ cleared_sets t) × (rows ≡ cleared old)
FileRead (passed c) t u old rows r =
    (r ≡ Ok (numbers_of c.numbers)) × (u ≡ lent_sets c.numbers t)
    × InRange c.numbers.n c.numbers.k × (length c.names ≡ c.numbers.k) × HoldNames c.names rows
    × (drop (24 * c.numbers.k) rows ≡ drop (24 * c.numbers.k) (with_superseding (cleared old) c.superseding)) × (superseding_in rows ≡ c.superseding)
