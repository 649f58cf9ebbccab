-- The lengths of the lent tables, and the clearing of both. Assumes nothing.
use Rattle.std.specs.Prelude.{ℕ, ◌≤◌, ◌≡◌, List, length, replicate}
use Rattle.std.proofs.Common.{arith}
use Rattle.gate.specs.Gate.{cleared}
use Rattle.expanding.specs.Tables.{TrackerTables, tracker_tables, EnoughForTracker}
use Rattle.filling.specs.TrackerTables.{cleared_tracker}

-- long enough for fewer tuples
pub room-less : {room m : ℕ} {v : TrackerTables} → 1 ≤ m → m ≤ room → EnoughForTracker room v → EnoughForTracker m v
room-less p q r = record { some = p; most = omega (arith, r.most); tuples = omega (arith, r.tuples); nexts = omega (arith, r.nexts) }

-- cleared one by one
pub tracker-cleared : (v : TrackerTables) {tuples nexts : List ℕ} → tuples ≡ cleared v.tuples → nexts ≡ cleared v.nexts → tracker_tables tuples nexts ≡ cleared_tracker v
tracker-cleared v p q i = tracker_tables (p i) (q i)

-- tables as long are cleared alike
pub cleared-alike : (v w : TrackerTables) → length v.tuples ≡ length w.tuples → length v.nexts ≡ length w.nexts → cleared_tracker v ≡ cleared_tracker w
cleared-alike v w p q i = record { tuples = replicate (p i) 0; nexts = replicate (q i) 0 }
