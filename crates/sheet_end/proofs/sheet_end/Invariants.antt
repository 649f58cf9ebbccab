-- No line that starts before `a` is just END. Assumes nothing.
use Prim.Native.Nat.{ℕ, ◌<◌}
use Rattle.sheet_end.specs.Split.{EndLine}
use Rattle.sheet_end.proofs.sheet_end.Given as goal

abbrev pub invariant-loop-a : goal.invariant-loop-a
invariant-loop-a l = (b : ℕ) → b < l.a → EndLine l.s b → ⊥
