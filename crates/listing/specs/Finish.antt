-- What the last question of listing leaves in the tables.
use Rattle.std.specs.Prelude.{List, ℕ, Result}
use Rattle.gate.specs.declared.Refusal.{Refusal}
use Rattle.gate.specs.Gate.{Put}
use Rattle.filling.specs.TrackerTables.{TrackerTables, cleared_tracker}
use Rattle.listing.specs.List.{Left}

-- the last question, on the text of the tracker that was built, whose tables are left; the buffer was old and is new
abbrev pub Finishes : List ℕ → TrackerTables → TrackerTables → List ℕ → List ℕ → Result ℕ Refusal → Type 0
Finishes text built left old new l = Put text old new l × Left (cleared_tracker built) built left l
