-- The lengths of the lent tables. Assumes nothing.
use Rattle.std.specs.Prelude.{ℕ, ◌≡◌, length}
use Rattle.expanding.specs.Tables.{TrackerTables, EnoughForTracker}

-- as long as tables that are long enough
pub room-alike : {room : ℕ} {v w : TrackerTables} → length w.tuples ≡ length v.tuples → length w.nexts ≡ length v.nexts → EnoughForTracker room v → EnoughForTracker room w
room-alike p q r = record { some = r.some; most = r.most; tuples = rw p r.tuples; nexts = rw q r.nexts }
