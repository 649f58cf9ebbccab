-- The file is refused, or read and the letter asked for compared with k. Assumes nothing.
use mathlib.Core.Path.{refl}
use native.Mathlib.Omega.{arith}
use Rattle.letters.specs.Letters.{NoName, NumberIs}
use Rattle.letters.specs.LettersLaws.{letters-are, no-letter}
use Rattle.letters.proofs.name_number.Goals as goal

pub returns-in-Err : goal.returns-in-Err
returns-in-Err c =
    let (e, zero) = c.in-Err.ensures in
    NumberIs.refused e.0 e.1 (NoName.faulty e.2) e.3

pub returns-in-Ok : goal.returns-in-Ok
returns-in-Ok c =
    let h = c.in-Ok.ensures.0 in
    let k = letters-are h in
    NumberIs.named h.sheet h.file (omega arith) refl

pub returns-in-Ok-2 : goal.returns-in-Ok-2
returns-in-Ok-2 c = NumberIs.refused 14 0 (no-letter c.in-Ok.ensures.0 c.args.letter c.if-letter-a.false) refl
