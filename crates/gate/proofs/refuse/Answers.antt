-- With 1 nothing is done; else the buffer is cleared. Assumes nothing.
use mathlib.Core.Path.{refl}
use Rattle.gate.proofs.refuse.Goals as goal

pub returns-then-r-eq1 : goal.returns-then-r-eq1
returns-then-r-eq1 c = record { is = refl; untouched = λ _. refl; zero = λ h. absurd (h c.if-r-eq1.true) }

pub returns : goal.returns
returns c =
    record { is = refl; untouched = λ h. absurd (c.if-r-eq1.false h); zero = λ _. c.clear_bytes.ensures }
