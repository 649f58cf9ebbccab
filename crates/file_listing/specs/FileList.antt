-- What listing the tracker of a sheet file answers, and what the lent tables hold then: what building asks, and last of all whether the buffer is long enough.
use Rattle.std.specs.Prelude.{ℕ, ◌≡◌, List, Err, Ok, Result}
use Rattle.gate.specs.Gate.{refusal, cleared, Put}
use Rattle.gate.specs.declared.Refusal.{Refusal}
use Rattle.tracker.specs.Build.{BuildTables, cleared_build, EnoughToBuild}
use Rattle.building.specs.FileBuild.{Builds}
use Rattle.tracker.specs.declared.Tracker.{Tracker}
use Rattle.listing.specs.List.{listing_of, Left}

-- THE LENT TABLES of listing from a sheet file: those of building, and the buffer
pub record ListTables : Type 0 where
  pub build : BuildTables
  pub output : List ℕ

abbrev pub list_tables : BuildTables → List ℕ → ListTables
list_tables build output = record { build = build; output = output }

-- LISTING FROM A SHEET FILE s
pub data Lists (s : List ℕ) (room : ℕ) (before after : ListTables) (l : Result ℕ Refusal) : Type 0 where
  -- 1, asked first: nothing is touched
  short : (EnoughToBuild room before.build → ⊥) → l ≡ Err (refusal 1 0) → after ≡ before → Lists s room before after l
  -- 2 to 11, as building refuses
  refused : EnoughToBuild room before.build → (r : Refusal) → Builds s room before.build after.build (Err r) → l ≡ Err r
      → after.output ≡ cleared before.output → Lists s room before after l
  -- 1, asked last, or the listing of the tracker that was built
  asked : (built : BuildTables) (x : Tracker) → Builds s room before.build built (Ok x)
      → Put (listing_of x built.tracker) before.output after.output l → Left (cleared_build before.build) built after.build l
      → Lists s room before after l
