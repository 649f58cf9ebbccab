-- Rows of 24 cells: a name padded to one, and told apart by it. Assumes nothing.
use Rattle.std.specs.Prelude.{ℕ, ◌+◌, ◌-◌, ◌≡◌, List, length, replicate}
use Rattle.std.proofs.Common.{sym, ◌∙◌, ap, arith}
use Rattle.std.proofs.lemmas.List.Edits.{sets}
use Rattle.gate.specs.Gate.{padded}
use Rattle.lists.specs.Search.{leading}
use Rattle.lists.specs.SearchLaws.{leading-padded}
use Rattle.lists.specs.StoreLaws.{sets-append}
use Rattle.text.specs.WordLaws.{no-zero-at}
use Rattle.names.specs.Name.{IsName}
use Rattle.names.specs.NameLaws.{name-without}

-- THE STORE of a row: its zeros behind the name
pub stored-zeros : (out x : List ℕ) (at n : ℕ) → n ≡ length x
    → sets (sets out at x) (at + n) (replicate (24 - n) 0) ≡ sets out at (padded 24 x)
stored-zeros out x at n e = rw e (sym (sets-append x (replicate (24 - length x) 0) out at))

-- A ROW TELLS NAMES APART: what stands in front of the zeros is the name
pub leading-name : (x : List ℕ) → IsName x → leading (padded 24 x) ≡ x
leading-name x n = leading-padded x (24 - length x) (no-zero-at x (name-without 0 x (omega arith) n))

pub padded-same : (x y : List ℕ) → IsName x → IsName y → padded 24 x ≡ padded 24 y → x ≡ y
padded-same x y n m e = sym (leading-name x n) ∙ (ap leading e ∙ leading-name y m)
