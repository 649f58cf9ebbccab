-- The file is refused, or read and the name found again in it. Assumes nothing.
use mathlib.Core.Path.{refl, sym, subst}
use mathlib.Core.List.{List}
use Prim.Native.Nat.{ℕ}
use Rattle.letters.specs.Letters.{NoName, NameIs}
use Rattle.letters.specs.LettersLaws.{name-given, no-letter}
use Rattle.letters.proofs.name.Goals as goal
use Rattle.letters.proofs.name.Goals.{in_default-via-in-Ok+else-letter-a, in_default-via-in_default}

pub returns-in-Ok : goal.returns-in-Ok
returns-in-Ok c =
    let a = c.args in
    subst (λ (x : List ℕ). NameIs a.sheet.now a.letter x) (sym c.spelled.ensures) (name-given c.in-Ok.ensures.0 a.letter c.if-letter-a.true)

pub returns-in_default : goal.returns-in_default
returns-in_default c =
    elim c.in_default.branch [
      | in_default-via-in-Ok+else-letter-a w ↦ NameIs.nothing 14 0 (no-letter w.in-Ok.ensures.0 c.args.letter w.if-letter-a.false) refl
      | in_default-via-in_default w ↦ let (e, zero) = w.in_default.ensures in NameIs.nothing e.0 e.1 (NoName.faulty e.2) refl
    ]
