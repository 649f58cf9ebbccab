-- The answers of the code to what the phases of a first and of a last line give, and the facts that come with them.
use Rattle.std.specs.Prelude.{ℕ, ◌≤◌, List, Err, Ok, Result}
use Rattle.gate.specs.declared.Refusal.{Refusal}
use Rattle.gate.specs.Gate.{refusal}
use Rattle.frame.specs.declared.Bounds.{Bounds}
use Rattle.frame.specs.Phase.{Phase, refused, passed}

-- a first line
abbrev pub first_answer : Phase (ℕ × ℕ) → Result (ℕ × ℕ) Refusal
first_answer (refused number line) = Err (refusal number line)
first_answer (passed (a, b)) = Ok (a, b)

-- two numbers are within bounds
abbrev pub WithinBounds : Bounds → ℕ → ℕ → Type 0
WithinBounds β a b = (β.least ≤ a) × (a ≤ β.most) × (β.low ≤ b) × (b ≤ β.high)

-- the numbers of a first line that is read are within its bounds
abbrev pub FirstFits : Bounds → Result (ℕ × ℕ) Refusal → Type 0
FirstFits β (Err r) = Unit
FirstFits β (Ok (a, b)) = WithinBounds β a b

-- a last line
abbrev pub end_answer : Phase (List ℕ) → Result Unit Refusal
end_answer (refused number line) = Err (refusal number line)
end_answer (passed done) = Ok tt
