-- The name of a letter is found again as it is spelled. Assumes nothing.
use Rattle.std.specs.Prelude.{ℕ, ◌≤◌, ◌<◌, ◌≡◌, List}
use Rattle.std.proofs.Common.{sym, arith}
use Rattle.automaton.specs.declared.Numbers.{Numbers}
use Rattle.parser.specs.LettersOf.{LettersOf}
use Rattle.letters.specs.Letters.{NoName, NameIs}
use Rattle.letters.specs.Spelling.{spelling}
use Rattle.letters.specs.SpellingLaws.{spelling-is}

module _ {s rows : List ℕ} {a : Numbers} (h : LettersOf s rows a) where
  pub letters-are : a.k ≡ h.sheet.k
  letters-are = sym h.names.letters

  pub name-given : (letter : ℕ) → letter < a.k → NameIs s letter (spelling s letter)
  name-given letter b =
      let k = letters-are in
      NameIs.spelled h.sheet h.file (omega arith) (spelling-is s h.sheet h.file letter (omega arith))

  pub no-letter : (letter : ℕ) → a.k ≤ letter → NoName s letter 14 0
  no-letter letter b = NoName.unknown h.sheet h.file (let k = letters-are in omega arith)
