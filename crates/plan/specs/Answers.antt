-- The answers of the code for what the phases of Parse give; and the facts that come with them.
use Rattle.std.specs.Prelude.{ℕ, ◌+◌, ◌≡◌, List, ◌++◌, drop, Err, Ok, Result}
use Rattle.gate.specs.declared.Refusal.{Refusal}
use Rattle.gate.specs.Gate.{refusal, cleared}
use Rattle.frame.specs.Phase.{Phase, refused, passed}
use Rattle.plan.specs.declared.PlanLengths.{PlanLengths}
use Rattle.plan.specs.Plan.{LengthsRight}
use Rattle.plan.specs.Parse.{lengths, PlanContents}

-- lengths that are read are in range
abbrev pub LengthsFit : Result PlanLengths Refusal → Type 0
LengthsFit (Err r) = Unit
LengthsFit (Ok z) = LengthsRight z.lead z.cycle

-- the answer of a plan of lengths z, by that of its last line
abbrev pub planned : PlanLengths → Result Unit Refusal → Result PlanLengths Refusal
planned z (Err r) = Err r
planned z (Ok tt) = Ok z

-- the answer of a plan, and the buffer: all zero, or the letters, and behind them what was there
abbrev pub PlanRead : Phase PlanContents → List ℕ → List ℕ → Result PlanLengths Refusal → Type 0
PlanRead (refused number line) t u r = (r ≡ Err (refusal number line)) × (u ≡ cleared t)
PlanRead (passed x) t u r = (r ≡ Ok (lengths x.lead x.cycle)) × (u ≡ x.letters ++ drop (x.lead + x.cycle) t)
