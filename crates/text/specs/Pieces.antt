-- Texts one behind the other.
use Rattle.std.specs.Prelude.{ℕ, zero, suc, List, [], ◌++◌}

-- the texts of a sequence from i on, of which there are `left`, one behind the other
unfoldable pub pieces : (ℕ → List ℕ) → ℕ → ℕ → List ℕ
pieces g i zero = []
pieces g i (suc left) = g i ++ pieces g (suc i) left
