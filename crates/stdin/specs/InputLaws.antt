-- What is read stands at the front of its buffer. Assumes nothing.
use Rattle.std.specs.Prelude.{ℕ, ◌+◌, ◌≤◌, ◌≡◌, List, length, take, Ok, Result}
use Rattle.std.proofs.Common.{sym, subst, arith, length-take-le}
use Rattle.stdin.specs.Input.{ReadWithin}

module _ {E : Type 0} (buf : List ℕ) {r : Result ℕ E} {n : ℕ} (w : ReadWithin buf 0 r) (e : r ≡ Ok n) where
  pub read-within : n ≤ length buf
  read-within = let h : 0 + n ≤ length buf = subst (ReadWithin buf 0) e w in omega arith

  -- as many bytes as are taken
  pub read_count : n ≡ length (take n buf)
  read_count = sym (length-take-le n buf read-within)
