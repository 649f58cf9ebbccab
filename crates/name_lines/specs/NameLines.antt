-- The name lines of a sheet file, read from the top: questions 5 and 6 in the order in which a reader asks them.
-- That this is what Format describes is a theorem. A byte past the end is 0, and 0 stands in no line.
use Rattle.std.specs.Prelude.{ℕ, zero, suc, ◌+◌, ◌*◌, ◌≤◌, ◌≡◌, List, [], ◌∷◌, ◌++◌, ◌&&◌, length, get_or, drop, eqb, Err, None, Ok, Option, Result}
use Rattle.gate.specs.declared.Refusal.{Refusal}
use Rattle.frame.specs.declared.Position.{Position}
use Rattle.gate.specs.Gate.{refusal, cleared}
use Rattle.lists.specs.Choice.{choose}
use Rattle.text.specs.Bytes.{space, stretch}
use Rattle.columns.specs.Number.{is_numbered}
use Rattle.names.specs.Name.{compose}
use Rattle.names.specs.Scan.{name_end_at, with_ending}
use Rattle.name_rows.specs.Rows.{letter_of, HoldNames}
use Rattle.frame.specs.Phase.{Phase, refused, passed}

-- what the name lines give: the names composed, and the next line's position and number
pub record Named : Type 0 where
  pub names : List (List ℕ)
  pub at : ℕ
  pub line : ℕ

-- the line of letter l: where its LF stands
unfoldable pub name_line_at : List ℕ → ℕ → ℕ → Option ℕ
name_line_at s at l = choose (is_numbered s at 78 l && eqb (get_or s (at + 4) 0) space) (name_end_at s (at + 5)) None

-- the line after `names`; `go` says what comes after it, from the position of its LF
-- "Is each name line of its form? No: 5. Are all names distinct after composing? No: 6, on the later line."
abbrev name_step : List ℕ → ℕ → ℕ → List (List ℕ) → (ℕ → Phase Named) → Phase Named
name_step s line at names go =
    with_ending (name_line_at s at (length names))
    (λ e. choose (eqb (letter_of names (compose (stretch s (at + 5) e))) (length names)) (go e) (refused 6 line))
    (refused 5 line)

-- `todo` name lines, the first of which is line `line` and stands at `at`, after those of `names`
unfoldable pub names_at : List ℕ → ℕ → ℕ → List (List ℕ) → ℕ → Phase Named
names_at s line at names zero = passed (record { names = names; at = at; line = line })
names_at s line at names (suc todo) =
    name_step s line at names
    (λ e. names_at s (line + 1) (e + 1) (names ++ (compose (stretch s (at + 5) e) ∷ [])) todo)

-- the answer of k name lines, and the rows, which were `old` and are `rows` then: all zero, or the names, and behind them what was there
abbrev pub NamesRead : ℕ → Phase Named → List ℕ → List ℕ → Result Position Refusal → Type 0
NamesRead k (refused number line) old rows r = (r ≡ Err (refusal number line)) × (rows ≡ cleared old)
NamesRead k (passed y) old rows r =
    (r ≡ Ok (record { at = y.at; line = y.line })) × (y.line ≤ 10) × (y.at ≤ 252) × (length y.names ≡ k)
    × HoldNames y.names rows × (drop (24 * k) rows ≡ drop (24 * k) old)
