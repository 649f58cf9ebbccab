-- The state lines of a sheet file, read from the top: question 7.
-- That this is what Format describes is a theorem. A byte past the end is 0, and 0 stands in no line.
use Rattle.std.specs.Prelude.{ℕ, zero, suc, ◌+◌, ◌*◌, ◌^◌, ◌≤◌, List, ◌&&◌, get_or, eqb, Err, None, Ok, Option, Result, Some}
use Rattle.gate.specs.declared.Refusal.{Refusal}
use Rattle.gate.specs.Gate.{refusal}
use Rattle.lists.specs.Choice.{choose}
use Rattle.columns.specs.Number.{is_numbered, is_between}
use Rattle.columns.specs.Pair.{pair_at, with_pair}
use Rattle.format.specs.Format.{state_width}
use Rattle.automaton.specs.declared.Edition.{Edition}
use Rattle.automaton.specs.declared.Edition.TheVariants.{StateBased, TransitionBased}
use Rattle.frame.specs.Phase.{Phase, refused, passed}
use Rattle.state_lines.specs.declared.Sets.{Sets}

-- two flags, each 0 or 1
abbrev pub flags_of : ℕ → ℕ → Option (ℕ × ℕ)
flags_of i r = choose (is_between 0 1 i && is_between 0 1 r) (Some (i, r)) None

-- the one flag of state q, behind its number
abbrev pub flag_of : ℕ → ℕ → ℕ → Option (ℕ × ℕ)
flag_of q p i = choose (is_between q q p && is_between 0 1 i) (Some (i, 0)) None

-- the line of state q: its flags, which the edition tells
unfoldable pub state_line_at : Edition → List ℕ → ℕ → ℕ → Option (ℕ × ℕ)
state_line_at StateBased s at q = choose (is_numbered s at 83 q) (with_pair (pair_at s (at + 4)) flags_of None) None
state_line_at TransitionBased s at q = choose (eqb (get_or s at 0) 83) (with_pair (pair_at s (at + 1)) (flag_of q) None) None

-- what to do with flags that were read, and what where there are none
abbrev pub with_flags : {A : Type 0} → Option (ℕ × ℕ) → (ℕ → ℕ → A) → A → A
with_flags (Some (i, r)) go bad = go i r
with_flags None go bad = bad

-- `todo` state lines from state q on, with the initial and the must-recur set of the states before it
-- "Is each state line of its form? No: 7."
unfoldable pub states_at : Edition → List ℕ → ℕ → ℕ → ℕ → ℕ → ℕ → ℕ → Phase Sets
states_at e s line at q initial recurring zero = passed (record { initial = initial; recurring = recurring; at = at; line = line })
states_at e s line at q initial recurring (suc todo) =
    with_flags (state_line_at e s at q)
    (λ i r. states_at e s (line + 1) (at + state_width e) (q + 1) (initial + i * 2 ^ q) (recurring + r * 2 ^ q) todo)
    (refused 7 line)

-- the flags of a state line that is read are 0 or 1
abbrev pub FlagsFit : Option (ℕ × ℕ) → Type 0
FlagsFit (Some (i, r)) = (i ≤ 1) × (r ≤ 1)
FlagsFit None = Unit

-- the answer of the state lines
abbrev pub states_answer : Phase Sets → Result Sets Refusal
states_answer (refused number line) = Err (refusal number line)
states_answer (passed q) = Ok q

-- where the line after the state lines stands
abbrev pub SetsFit : Result Sets Refusal → Type 0
SetsFit (Err r) = Unit
SetsFit (Ok q) = (q.line ≤ 33) × (q.at ≤ 500)
