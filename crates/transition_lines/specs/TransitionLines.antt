-- The transition lines of a sheet file and its end, read from the top: questions 8, 16 and 9 in the order in which a reader asks them.
-- That this is what Format describes is a theorem. A byte past the end is 0, and 0 stands in no line.
use Rattle.std.specs.Prelude.{ℕ, zero, suc, ◌+◌, ◌≤◌, ◌<◌, ◌≡◌, List, [], ◌++◌, ◌&&◌, get_or, drop, ltb, leb, eqb, Err, None, Ok, Option, Result, Some}
use Rattle.gate.specs.declared.Refusal.{Refusal}
use Rattle.gate.specs.Gate.{refusal}
use Rattle.lists.specs.Choice.{choose}
use Rattle.columns.specs.Number.{number_at, with_number}
use Rattle.columns.specs.Pair.{pair_at, with_pair}
use Rattle.automaton.specs.Automaton.{TransitionSets, transition_sets}
use Rattle.automaton.specs.declared.Edition.{Edition}
use Rattle.automaton.specs.declared.Edition.TheVariants.{StateBased, TransitionBased}
use Rattle.lent.specs.Lent.{cleared_sets}
use Rattle.format.specs.Format.{Transition, cell, transition_index, transition_width}
use Rattle.format.specs.Numbers.{inserted, inserted_where}
use Rattle.frame.specs.Phase.{Phase, refused, passed, and_then, end_at}

-- a transition in range whose place is not below `least`
unfoldable pub transition_of : ℕ → ℕ → ℕ → ℕ → ℕ → ℕ → ℕ → Option (ℕ × ℕ × ℕ × ℕ)
transition_of n k least from letter to mark =
    choose (ltb from n && (ltb letter k && (ltb to n && leb least (transition_index (record { from = from; letter = letter; to = to; mark = mark })))))
    (Some (from, letter, to, mark)) None

-- the same where its mark is 0 or 1
unfoldable pub marked_one : ℕ → ℕ → ℕ → ℕ → ℕ → ℕ → ℕ → Option (ℕ × ℕ × ℕ × ℕ)
marked_one n k least from letter to mark = choose (leb mark 1) (transition_of n k least from letter to mark) None

-- the line of a transition, behind its T and its first number: what the edition tells
unfoldable pub line_from : Edition → List ℕ → ℕ → ℕ → ℕ → ℕ → ℕ → Option (ℕ × ℕ × ℕ × ℕ)
line_from StateBased s at n k least from = with_pair (pair_at s (at + 4)) (λ letter to. transition_of n k least from letter to 0) None
line_from TransitionBased s at n k least from =
    with_number (number_at s (at + 4)) (λ letter. with_pair (pair_at s (at + 7)) (λ to mark. marked_one n k least from letter to mark) None) None

-- the line of a transition, behind its T
unfoldable pub transition_line_at : Edition → List ℕ → ℕ → ℕ → ℕ → ℕ → Option (ℕ × ℕ × ℕ × ℕ)
transition_line_at e s at n k least = with_number (number_at s (at + 1)) (λ from. line_from e s at n k least from) None

-- what to do with a transition that was read, and what where there is none
abbrev pub with_transition : {A : Type 0} → Option (ℕ × ℕ × ℕ × ℕ) → (Transition → A) → A → A
with_transition (Some (from, letter, to, mark)) go bad = go (record { from = from; letter = letter; to = to; mark = mark })
with_transition None go bad = bad

-- what comes after a transition where the cell of its letter has no superseding letter
-- "a transition on a withdrawn letter with 16 straight after 8"
abbrev pub if_in_force : List ℕ → ℕ → Transition → Phase TransitionSets → Phase TransitionSets
if_in_force cells line t next = choose (eqb (get_or cells t.letter 0) 0) next (refused 16 line)

-- the two tables with one transition more
abbrev pub with_marked : TransitionSets → Transition → TransitionSets
with_marked sets t = transition_sets (inserted sets.successors t) (inserted_where t.mark sets.marks (cell t) t.to)

-- the end: the two tables, where it is last
abbrev pub end_sets : List ℕ → ℕ → ℕ → TransitionSets → Phase TransitionSets
end_sets s line at sets = and_then (end_at 9 s line at []) (λ _. passed sets)

-- one line; `go` says what comes after a transition
-- "a line beginning with T answers to question 8, any other to 9"
abbrev transition_step : Edition → List ℕ → List ℕ → ℕ → ℕ → ℕ → ℕ → ℕ → TransitionSets → (Transition → Phase TransitionSets) → Phase TransitionSets
transition_step e s cells n k line at least sets go =
    choose (eqb (get_or s at 0) 84)
    (with_transition (transition_line_at e s at n k least) (λ t. if_in_force cells line t (go t)) (refused 8 line))
    (end_sets s line at sets)

-- the transition lines and the end: the successor sets and the marks. `cells` has the superseding letters, `fuel` is more than there are lines
unfoldable pub transitions_at : Edition → List ℕ → List ℕ → ℕ → ℕ → ℕ → ℕ → ℕ → TransitionSets → ℕ → Phase TransitionSets
transitions_at e s cells n k line at least sets zero = refused 9 line
transitions_at e s cells n k line at least sets (suc fuel) =
    transition_step e s cells n k line at least sets
    (λ t. transitions_at e s cells n k (line + 1) (at + transition_width e) (transition_index t + 1) (with_marked sets t) fuel)

-- a transition that is read has its cell among the 128, its state among the 16, and the mark 0 or 1
abbrev pub TransitionFits : Option (ℕ × ℕ × ℕ × ℕ) → Type 0
TransitionFits (Some (from, letter, to, mark)) = (from < 16) × (letter < 8) × (to < 16) × (mark ≤ 1)
TransitionFits None = Unit

-- the tables with the sets that were read, and behind them what was there
abbrev pub filled_front : TransitionSets → TransitionSets → TransitionSets
filled_front sets before = transition_sets (sets.successors ++ drop 128 before.successors) (sets.marks ++ drop 128 before.marks)

-- the answer of the transition lines, and the tables, which were `before` and are `after` then: all zero, or filled
abbrev pub FillsTable : Phase TransitionSets → TransitionSets → TransitionSets → Result Unit Refusal → Type 0
FillsTable (refused number line) before after r = (r ≡ Err (refusal number line)) × (after ≡ cleared_sets before)
FillsTable (passed sets) before after r = (r ≡ Ok tt) × (after ≡ filled_front sets before)
