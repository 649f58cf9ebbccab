-- Each length that is too short denies its part. Assumes nothing.
use native.Mathlib.Omega.{arith}
use Rattle.gate.specs.GateLaws.{decides-yes, decides-no}
use Rattle.lent.proofs.long_enough.Goals as goal

pub returns-then-table-lt128 : goal.returns-then-table-lt128
returns-then-table-lt128 c = decides-no (λ l. let h = l.tables.cells in omega arith)

pub returns-then-marks-lt128 : goal.returns-then-marks-lt128
returns-then-marks-lt128 c = decides-no (λ l. let h = l.tables.marks in omega arith)

pub returns-then-word-lt136 : goal.returns-then-word-lt136
returns-then-word-lt136 c = decides-no (λ l. let h = l.long.word in omega arith)

pub returns-then-one-lt137 : goal.returns-then-one-lt137
returns-then-one-lt137 c = decides-no (λ l. let h = l.long.one in omega arith)

pub returns-then-other-lt137 : goal.returns-then-other-lt137
returns-then-other-lt137 c = decides-no (λ l. let h = l.long.other in omega arith)

pub returns : goal.returns
returns c =
    decides-yes (record { tables = record { cells = omega arith; marks = omega arith }; long = record { word = omega arith; one = omega arith; other = omega arith } })
