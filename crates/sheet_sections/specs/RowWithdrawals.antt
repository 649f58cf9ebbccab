-- The withdrawals in cells, one letter after the other.
use Rattle.std.specs.Prelude.{ℕ, zero, suc, List, [], ◌∷◌, get_or}
use Rattle.format.specs.Format.{Withdrawal, withdrawal_line}
use Rattle.format.specs.Withdrawals.{withdrawn_by}

-- a letter's withdrawal in front of others, where its cell has a superseding letter
abbrev pub where_withdrawn : ℕ → ℕ → List Withdrawal → List Withdrawal
where_withdrawn l zero ws = ws
where_withdrawn l (suc m) ws = withdrawn_by l (suc m) ∷ ws

-- the withdrawals of the letters from l on, of which there are `left`
unfoldable pub withdrawals_of : List ℕ → ℕ → ℕ → List Withdrawal
withdrawals_of cells l zero = []
withdrawals_of cells l (suc left) = where_withdrawn l (get_or cells l 0) (withdrawals_of cells (suc l) left)

-- the line of a letter with a superseding letter
abbrev pub line_where : ℕ → ℕ → List ℕ
line_where l zero = []
line_where l (suc m) = withdrawal_line (withdrawn_by l (suc m))

-- the line of letter l, where it is withdrawn
abbrev pub withdrawal_text : List ℕ → ℕ → List ℕ
withdrawal_text cells l = line_where l (get_or cells l 0)
