-- Document 01, "A whole listing": "Program `track` reads a sheet from standard input (room 1,024)." What it prints.
use Rattle.std.specs.Prelude.{ℕ, ◌≡◌, List}
use Rattle.gate.specs.declared.Refusal.{Refusal}
use Rattle.lent.specs.Lent.{WitnessTables}
use Rattle.format.specs.Format.{Sheet}
use Rattle.format.specs.Numbers.{numbers}
use Rattle.reading.specs.Read.{Accepted, Refuses}
use Rattle.numbering.specs.Numbering.{MoreThan}
use Rattle.filling.specs.TrackerTables.{TrackerTables, Fitted}
use Rattle.listing_text.specs.Listing.{listing}
use Rattle.report.specs.Report.{refusal_line}
use Rattle.report.specs.Output.{program_room}

-- the listing of 1,024 tuples of 16 sets on 8 letters: a first line of 17 bytes, 1,024 lines of 146, and END
abbrev pub longest_track : ℕ
longest_track = 149525

-- WHAT `track` PRINTS for the input s
pub data TrackOutput (s text : List ℕ) : Type 0 where
  -- 2 to 10: "For a refusal either program prints `REF`, number (3), line (5)."
  refused : (before after : WitnessTables) (r : Refusal) → Refuses s before after r → text ≡ refusal_line r.number r.line → TrackOutput s text
  -- 11
  no_room : (σ : Sheet) → Accepted s σ → MoreThan (numbers σ) program_room → text ≡ refusal_line 11 0 → TrackOutput s text
  -- the listing of the sheet's tracker
  listed : (σ : Sheet) → Accepted s σ → (before after : TrackerTables) (count : ℕ) → Fitted (numbers σ) program_room before after count
      → text ≡ listing σ.n σ.k count after.tuples after.nexts → TrackOutput s text
