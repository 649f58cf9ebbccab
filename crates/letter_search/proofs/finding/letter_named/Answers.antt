-- The name is looked up in the rows of the letters' names, and its letter's chain is followed. Assumes nothing.
use mathlib.Core.Path.{refl, ◌∙◌}
use mathlib.Core.List.{map}
use native.Mathlib.Omega.{arith}
use lib.ListN.{length-map}
use Rattle.text.specs.BytesLaws.{stretch-end}
use Rattle.names.specs.Name.{IsName, compose}
use Rattle.names.specs.NameLaws.{composed-name}
use Rattle.name_rows.specs.Rows.{FirstName, OnlyRow}
use Rattle.name_rows.specs.RowsLaws.{only-stored, only_none}
use Rattle.format.specs.Format.{Sheet}
use Rattle.parser.specs.LettersOf.{LettersIn}
use Rattle.letter_search.specs.LetterOfLaws.{letter-found, letter-nowhere}
use Rattle.letter_search.proofs.finding.letter_named.Goals as goal
use Rattle.letter_search.proofs.finding.letter_named.Goals.{After-letter_of-l, Else-not-is_name}

-- what was given is a name
is_one : (c : Else-not-is_name) → IsName c.args.name.now
is_one c = c.is_name.ensures.0 c.if-not-is_name.false

-- the rows were searched for it
first : (c : After-letter_of-l) (σ : Sheet) → LettersIn σ c.args.k c.args.rows.now
    → FirstName (map compose σ.names) (compose c.args.name.now) c.letter_of-l.result
first c σ h =
    let whole = stretch-end c.args.name.now 0 in
    let is_one : IsName c.args.name.now = c.is_name.ensures.0 c.if-not-is_name.false in
    rw whole at (c.letter_of-l.ensures.1 (map compose σ.names) (length-map σ.names compose ∙ h.all-names) h.holds (rw whole is_one)).0

-- and it went into the row behind the names
only_row : (c : After-letter_of-l) → OnlyRow c.args.k c.args.rows.now c.letter_of-l.new.rows
only_row c =
    let whole = stretch-end c.args.name.now 0 in
    let is_one : IsName c.args.name.now = c.is_name.ensures.0 c.if-not-is_name.false in
    only-stored _ _ (compose _) (let p = c.requires in omega arith) (composed-name _ (rw whole is_one)).most _ c.letter_of-l.ensures.0

pub returns-then-not-is_name : goal.returns-then-not-is_name
returns-then-not-is_name c =
    (λ σ h. (λ l g. c.is_name.ensures.1 c.if-not-is_name.true g.is_name, refl), only_none _ _)

pub letter_of-l-requires : goal.letter_of-l-requires
letter_of-l-requires c =
    let m = (is_one (goal.at.letter_of-l-requires c).Else-not-is_name).most in
    let p = c.requires in
    (p.0, omega arith, record { order = omega arith; fits = omega arith }, omega arith)

pub returns-then-l-k : goal.returns-then-l-k
returns-then-l-k c = (
  λ σ h.
      letter-found h c.args.name.now c.letter_of-l.result (first (goal.at.returns-then-l-k c).After-letter_of-l σ h) c.requires.0
      (only_row (goal.at.returns-then-l-k c).After-letter_of-l) (is_one (goal.at.returns-then-l-k c).Else-not-is_name)
      c.if-l-k.true c.final_letter.ensures.0,
  only_row (goal.at.returns-then-l-k c).After-letter_of-l,
)

pub returns-else-l-k : goal.returns-else-l-k
returns-else-l-k c = (
  λ σ h. (letter-nowhere h c.args.name.now c.letter_of-l.result (first (goal.at.returns-else-l-k c).After-letter_of-l σ h) c.if-l-k.false, refl),
  only_row (goal.at.returns-else-l-k c).After-letter_of-l,
)
