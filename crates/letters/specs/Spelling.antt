-- The name of a letter, found again in a sheet file that is read: one line after the other.
use Rattle.std.specs.Prelude.{ℕ, zero, suc, ◌+◌, List, []}
use Rattle.text.specs.Bytes.{stretch}
use Rattle.names.specs.Scan.{name_end_at}
use Rattle.names.specs.Scan.{with_ending}

-- the position of the name line l lines below the one at `at`
unfoldable pub line_below : List ℕ → ℕ → ℕ → ℕ
line_below s at zero = at
line_below s at (suc l) = with_ending (name_end_at s (at + 5)) (λ e. line_below s (e + 1) l) at

-- the name in the line at `at`, as it is spelled
unfoldable pub spelled_at : List ℕ → ℕ → List ℕ
spelled_at s at = with_ending (name_end_at s (at + 5)) (λ e. stretch s (at + 5) e) []

-- the name of a letter: the first name line stands behind the 12 bytes of the first line
unfoldable pub spelling : List ℕ → ℕ → List ℕ
spelling s l = spelled_at s (line_below s 12 l)
