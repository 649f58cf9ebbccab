-- The answers of the public calls in numbers, for callers that have no enums: the cells of each answer.
use Rattle.std.specs.Prelude.{ℕ, ◌≡◌, List, [], ◌∷◌, eqb, Err, None, Ok, Option, Result, Some}
use Rattle.tracker.specs.declared.Tracker.{Tracker}
use Rattle.passes.specs.declared.Verdict.{Verdict}
use Rattle.gate.specs.declared.Refusal.{Refusal}
use Rattle.lists.specs.Choice.{choose}
use Rattle.cells.specs.Cells.{into, refusal_cells}
use Rattle.automaton.specs.Automaton.{Automaton}
use Rattle.automaton.specs.declared.Edition.{Edition}
use Rattle.automaton.specs.declared.Edition.TheVariants.{StateBased, TransitionBased}
use Rattle.automaton.specs.declared.Numbers.{Numbers}
use Rattle.letters.specs.Letters.{NameIs}
use Rattle.passes.specs.declared.Answer.{Answer}
use Rattle.passes.specs.declared.Answer.TheVariants.{Yes, No}

-- an edition in a number: 1 for SHEET, 2 for SHT-2
abbrev pub edition_cell : Edition → ℕ
edition_cell StateBased = 1
edition_cell TransitionBased = 2

-- the edition that an argument names: 2 is SHT-2, every other number SHEET
abbrev pub edition_numbered : ℕ → Edition
edition_numbered e = choose (eqb e 2) TransitionBased StateBased

-- a sheet as numbers, from a call's arguments
abbrev pub as_numbers : Edition → ℕ → ℕ → ℕ → ℕ → List ℕ → List ℕ → Automaton
as_numbers e n k initial recurring table marks =
    record { edition = e; n = n; k = k; initial = initial; recurring = recurring; table = table; marks = marks }

-- THE CELLS OF EACH ANSWER. As with a written text, the first cell tells the case, and 0 is a refusal.

abbrev pub checked_cells : Result Unit Refusal → List ℕ
checked_cells (Err r) = refusal_cells r
checked_cells (Ok tt) = 1 ∷ []

abbrev pub sheet_cells : Numbers → List ℕ
sheet_cells a = edition_cell a.edition ∷ a.n ∷ a.k ∷ a.initial ∷ a.recurring ∷ []

abbrev pub read_cells : Result Numbers Refusal → List ℕ
read_cells (Err r) = refusal_cells r
read_cells (Ok a) = 1 ∷ sheet_cells a

abbrev pub found_cells : Result ℕ Refusal → List ℕ
found_cells (Err r) = refusal_cells r
found_cells (Ok l) = 1 ∷ l ∷ []

abbrev pub built_cells : Result Tracker Refusal → List ℕ
built_cells (Err r) = refusal_cells r
built_cells (Ok x) = 1 ∷ edition_cell x.numbers.edition ∷ x.numbers.n ∷ x.numbers.k ∷ x.numbers.initial ∷ x.numbers.recurring ∷ x.tuples ∷ []

-- the way to a tuple: 1 and the word's length, or 2 where there is no such tuple
abbrev pub way_cells : Result (Option ℕ) Refusal → List ℕ
way_cells (Err r) = refusal_cells r
way_cells (Ok None) = 2 ∷ []
way_cells (Ok (Some size)) = 1 ∷ size ∷ []

-- a judged plan: 1 for yes, 2 for no
abbrev pub answer_cell : Answer → ℕ
answer_cell Yes = 1
answer_cell No = 2

abbrev pub outcome_cells : Result Verdict Refusal → List ℕ
outcome_cells (Err r) = refusal_cells r
outcome_cells (Ok z) = answer_cell z.answer ∷ z.least ∷ z.passes ∷ []

-- the name of a letter, with its bytes in a lent buffer that was b and is c
pub record NameCopied (s : List ℕ) (letter : ℕ) (b c : List ℕ) (name : List ℕ) : Type 0 where
  pub is : NameIs s letter name
  pub bytes : c ≡ into b name
