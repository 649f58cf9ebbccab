-- What a tracker tells of the questions on the way to it. Assumes nothing.
use Rattle.std.specs.Prelude.{ℕ, ◌≡◌, Err, Ok}
use Rattle.std.proofs.Common.{arith}
use Rattle.gate.specs.declared.Refusal.{Refusal}
use Rattle.automaton.specs.Automaton.{Automaton, graph_of, Fits, AreNumbers}
use Rattle.automaton.specs.Endless.{MeetingFree}
use Rattle.lent.specs.Lent.{cleared_witness}
use Rattle.filling.specs.TrackerTables.{Fitted}
use Rattle.tracker.specs.declared.Tracker.{Tracker}
use Rattle.tracker.specs.Build.{BuildNumbersTables, EnoughToBuildNumbers, BuildsNumbers}

pub no-refusal : {x : Tracker} {r : Refusal} → Ok x ≡ Err r → ⊥
no-refusal e = let z : ◌≡◌ {A = ℕ} 0 1 = cc in omega arith

pub numbers-built : {A : Automaton} {room : ℕ} {before after : BuildNumbersTables} {x : Tracker} → BuildsNumbers A room before after (Ok x)
    → EnoughToBuildNumbers A room before × Fits A × (AreNumbers A x.numbers × Fitted A room before.tracker after.tracker x.tuples)
    × (after.witness ≡ cleared_witness before.witness)
numbers-built (BuildsNumbers.short n e same) = absurd (no-refusal e)
numbers-built (BuildsNumbers.refused l r h e c) = absurd (no-refusal e)
numbers-built (BuildsNumbers.asked l fits free c is) = (l, fits, is, c)

-- and they were free of meeting walks
pub numbers-free : {A : Automaton} {room : ℕ} {before after : BuildNumbersTables} {x : Tracker} → BuildsNumbers A room before after (Ok x) → MeetingFree (graph_of A)
numbers-free (BuildsNumbers.short n e same) = absurd (no-refusal e)
numbers-free (BuildsNumbers.refused l r h e c) = absurd (no-refusal e)
numbers-free (BuildsNumbers.asked l fits free c is) = free
