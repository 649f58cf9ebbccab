-- What a read of standard input answers. Which bytes are read no contract can say.
use Rattle.std.specs.Prelude.{ℕ, ◌+◌, ◌≤◌, List, length, Err, Ok, Result}

-- so many bytes stand in a buffer from n on
abbrev pub ReadWithin : {E : Type 0} → List ℕ → ℕ → Result ℕ E → Type 0
ReadWithin buf n (Err e) = Unit
ReadWithin buf n (Ok more) = n + more ≤ length buf
