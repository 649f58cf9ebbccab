-- What the parts of the code's step do to the cells of a row. The code gathers what marked places remove, and removes it at each later
-- place's turn.
use Rattle.std.specs.Prelude.{ℕ, suc, ◌+◌, ◌-◌, ◌<◌, ◌≡◌, Bool, true, false, List, ◌++◌, map, length, get_or, set, take, drop, replicate}
use Rattle.std.proofs.Math.Seq.{slice}
use Rattle.sets.specs.Sets.{union_of, inter_of}
use Rattle.automaton.specs.Automaton.{Automaton}
use Rattle.automaton.specs.declared.Edition.{Edition}
use Rattle.automaton.specs.declared.Edition.TheVariants.{StateBased, TransitionBased}
use Rattle.automaton.specs.Successors.{successors_of}
use Rattle.tuple.specs.Step.{places, union_all, least, pass, colour_of, close_up}
use Rattle.tuple_record.specs.Record.{set_cells}
use Rattle.tuple.specs.Row.{sets_of}

-- what is removed from all later places, after the turn of a place with set x
unfoldable pub out_of : Bool → ℕ → ℕ → ℕ
out_of true out x = union_of out x
out_of false out x = out

-- the sets of the cells are replaced by their successors, and counted
pub record Advanced (table : List ℕ) (l : ℕ) (cells result : List ℕ) (count : ℕ) : Type 0 where
  pub counted : count ≡ length (sets_of cells)
  pub replaced : result ≡ map (successors_of table l) (sets_of cells) ++ drop count cells

-- the new set of point 2, from set 0 before the step and after it
abbrev pub recurrent_from : Edition → ℕ → List ℕ → ℕ → ℕ → ℕ → ℕ
recurrent_from StateBased recurring marks l old first = inter_of first recurring
recurrent_from TransitionBased recurring marks l old first = successors_of marks l old

-- cell j of later has the members of the places behind j, of the first count places
abbrev pub Unions : ℕ → List ℕ → List ℕ → Type 0
Unions count cells later = (j : ℕ) → j < count → get_or later j 0 ≡ union_all (slice (suc j) count cells)

-- the first count places are closed up after the pass, and zeros fill them up; with the least colour, where p sets were non-empty before
pub record Swept (n p count : ℕ) (cells result : List ℕ) (colour : ℕ) : Type 0 where
  pub closes :
      result ≡ close_up (pass (take count cells)) ++ (replicate (count - length (close_up (pass (take count cells)))) 0 ++ drop count cells)
  pub coloured : colour ≡ least n p 0 (pass (take count cells))

-- points 1 and 2: the places before the marking pass, p of them with successors
pub record Placed (A : Automaton) (l : ℕ) (cells result : List ℕ) (p : ℕ) : Type 0 where
  pub counted : p ≡ length (sets_of cells)
  pub places-put : result ≡ places A l (sets_of cells) ++ drop (p + 1) cells

-- points 3 to 5 over the first p + 1 places, and the colour in the last cell
abbrev pub settled : ℕ → ℕ → List ℕ → List ℕ
settled n p cells =
    let w = pass (take (p + 1) cells) in
    set (close_up w ++ (replicate (p + 1 - length (close_up w)) 0 ++ drop (p + 1) cells)) set_cells (colour_of n p w)
