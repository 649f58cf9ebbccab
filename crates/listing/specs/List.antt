-- What listing a tracker from numbers answers, and what the lent tables hold then: what building asks, and last of all whether the buffer is long enough.
use Rattle.std.specs.Prelude.{ℕ, ◌≡◌, List, Err, Ok, Result}
use Rattle.gate.specs.Gate.{refusal, cleared, Put}
use Rattle.gate.specs.declared.Refusal.{Refusal}
use Rattle.automaton.specs.Automaton.{Automaton}
use Rattle.filling.specs.TrackerTables.{TrackerTables}
use Rattle.tracker.specs.Build.{BuildNumbersTables, cleared_build_numbers, EnoughToBuildNumbers, BuildsNumbers}
use Rattle.tracker.specs.declared.Tracker.{Tracker}
use Rattle.listing_text.specs.Listing.{listing}

-- THE LENT TABLES of listing from numbers: those of building, and the buffer
pub record ListNumbersTables : Type 0 where
  pub build : BuildNumbersTables
  pub output : List ℕ

abbrev pub list_numbers_tables : BuildNumbersTables → List ℕ → ListNumbersTables
list_numbers_tables build output = record { build = build; output = output }

-- the listing of a tracker in its tables
abbrev pub listing_of : Tracker → TrackerTables → List ℕ
listing_of x tracker = listing x.numbers.n x.numbers.k x.tuples tracker.tuples tracker.nexts

-- what lent tables are left as by the last question: `empty` with a refusal, `full` with the text
abbrev pub Left : {X : Type 0} → X → X → X → Result ℕ Refusal → Type 0
Left empty full left (Err r) = left ≡ empty
Left empty full left (Ok count) = left ≡ full

-- LISTING FROM NUMBERS. The sheet as numbers is A.
pub data ListsNumbers (A : Automaton) (room : ℕ) (before after : ListNumbersTables) (l : Result ℕ Refusal) : Type 0 where
  -- 1, asked first: nothing is touched
  short : (EnoughToBuildNumbers A room before.build → ⊥) → l ≡ Err (refusal 1 0) → after ≡ before → ListsNumbers A room before after l
  -- 4, 7, 8, 10 and 11, as building refuses
  refused : EnoughToBuildNumbers A room before.build → (r : Refusal) → BuildsNumbers A room before.build after.build (Err r) → l ≡ Err r
      → after.output ≡ cleared before.output → ListsNumbers A room before after l
  -- 1, asked last, or the listing of the tracker that was built
  asked : (built : BuildNumbersTables) (x : Tracker) → BuildsNumbers A room before.build built (Ok x)
      → Put (listing_of x built.tracker) before.output after.output l → Left (cleared_build_numbers before.build) built after.build l
      → ListsNumbers A room before after l
