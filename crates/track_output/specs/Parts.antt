-- What the parts of `track` leave in the buffer.
use Rattle.std.specs.Prelude.{ℕ, ◌≡◌, List, length, Err, Ok, Result}
use Rattle.gate.specs.declared.Refusal.{Refusal}
use Rattle.gate.specs.Gate.{cleared, lent_text}
use Rattle.report.specs.Report.{line_of}

-- what listing has left in the buffer: all zero with a refusal
abbrev pub Behind : Result ℕ Refusal → List ℕ → Type 0
Behind (Err r) c = c ≡ cleared c
Behind (Ok m) c = Unit

-- behind listing, which left c in the buffer: the refusal's line takes its place, or the listing stands there
abbrev pub Printing : Result ℕ Refusal → List ℕ → List ℕ → ℕ → Type 0
Printing (Err r) c d count = (count ≡ length (line_of r)) × (d ≡ lent_text (line_of r) c)
Printing (Ok m) c d count = (count ≡ m) × (d ≡ c)
