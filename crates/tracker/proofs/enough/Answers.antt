-- Each test that fails denies its part; the rest is the sheet's lengths. Assumes nothing.
use native.Mathlib.Omega.{arith}
use Rattle.gate.specs.GateLaws.{decides-no}
use Rattle.tracker.proofs.enough.Goals as goal

pub returns-then-room-lt1 : goal.returns-then-room-lt1
returns-then-room-lt1 c = decides-no (λ l. let z = l.tracker.some in omega arith)

pub returns-then-room-gt1024 : goal.returns-then-room-gt1024
returns-then-room-gt1024 c = decides-no (λ l. let z = l.tracker.most in omega arith)

pub returns-then-tuples-room : goal.returns-then-tuples-room
returns-then-tuples-room c = decides-no (λ l. let z = l.tracker.tuples in omega arith)

pub returns-then-nexts-room : goal.returns-then-nexts-room
returns-then-nexts-room c = decides-no (λ l. let z = l.tracker.nexts in omega arith)

pub returns : goal.returns
returns c =
    let long = c.long_enough.ensures in (
      λ y. record { lengths = long.0 y; tracker = record { some = omega arith; most = omega arith; tuples = omega arith; nexts = omega arith } },
      λ n l. long.1 n l.lengths,
    )
