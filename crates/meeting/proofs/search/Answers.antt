-- The search starts from a queue that is all zero. Assumes nothing.
use Prim.Native.Nat.{ℕ}
use lib.ListN.{length-replicate}
use Rattle.gate.specs.GateLaws.{zeros}
use Rattle.meeting.proofs.search.Goals as goal

pub explore-requires : goal.explore-requires
explore-requires c =
    let p = c.requires in
    (p.0.fits, p.0.cells, p.1, record { size = length-replicate {A = ℕ} 528 0; zeros = zeros 528 })
