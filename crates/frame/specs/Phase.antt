-- The phases of reading that a sheet and a plan share: a first line, and the END.
use Rattle.std.specs.Prelude.{ℕ, ◌+◌, List, Bool, ◌&&◌, length, eqb, Option}
use Rattle.lists.specs.Choice.{choose}
use Rattle.text.specs.Bytes.{end_line}
use Rattle.columns.specs.Number.{is_between}
use Rattle.columns.specs.Pair.{with_pair}
use Rattle.text.specs.Word.{starts_at}
use Rattle.frame.specs.declared.Bounds.{Bounds}

-- A PHASE of reading, one for each kind of line: it refuses with a number and a line, or hands on what it read
pub data Phase (A : Type 0) : Type 0 where
  refused : ℕ → ℕ → Phase A
  passed : A → Phase A

-- the next phase, on what a phase handed on
abbrev pub and_then : {A B : Type 0} → Phase A → (A → Phase B) → Phase B
and_then (refused number line) next = refused number line
and_then (passed a) next = next a

-- A FIRST LINE

-- are two numbers within bounds
abbrev pub in_bounds : Bounds → ℕ → ℕ → Bool
in_bounds β a b = is_between β.least β.most a && is_between β.low β.high b

-- a first line, of a sheet or of a plan: `form` is the number of a refusal for its form, and `range` for numbers out of bounds
abbrev pub first_phase : {A : Type 0} → Option (ℕ × ℕ) → Bounds → (ℕ → ℕ → A) → ℕ → ℕ → Phase A
first_phase w β make form range = with_pair w (λ a b. choose (in_bounds β a b) (passed (make a b)) (refused range 1)) (refused form 1)

-- THE END

-- "Is `END` last? No: 9.", "What follows `END` is a fault of the line after it": `number` is 9 in a sheet and 12 in a plan
unfoldable pub end_at : ℕ → List ℕ → ℕ → ℕ → List ℕ → Phase (List ℕ)
end_at number s line at done =
    choose (starts_at s at end_line) (choose (eqb (length s) (at + 4)) (passed done) (refused number (line + 1))) (refused number line)
