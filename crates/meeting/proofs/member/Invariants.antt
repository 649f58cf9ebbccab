-- The invariant: no number below q is a member. Assumes nothing.
use Prim.Native.Nat.{ℕ, ◌<◌}
use Rattle.sets.specs.Sets.{Member}
use Rattle.meeting.proofs.member.Given as goal

abbrev pub invariant-loop-q : goal.invariant-loop-q
invariant-loop-q l = (j : ℕ) → j < l.q → Member l.set j → ⊥
