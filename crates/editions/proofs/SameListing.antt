-- Document 02, R-9: "a SHEET file rewritten with a mark on every transition into a must-recur state has the very same listing". For every accepted SHEET. Assumes
-- nothing.
use Rattle.std.specs.Prelude.{ℕ, ◌≡◌, List}
use Rattle.std.proofs.Common.{sym}
use Rattle.std.proofs.Math.Path.{subst}
use Rattle.automaton.specs.Automaton.{Automaton}
use Rattle.automaton.specs.Rewritten.{marked_into}
use Rattle.automaton.specs.declared.Edition.TheVariants.{StateBased}
use Rattle.numbering.specs.Numbering.{MoreThan}
use Rattle.numbering.proofs.SameNumbering.{rewritten-more}
use Rattle.filling.specs.TrackerTables.{TrackerTables, Fitted}
use Rattle.filling.proofs.SameTracker.{rewritten-fitted}
use Rattle.format.specs.Format.{Sheet}
use Rattle.format.specs.Numbers.{numbers}
use Rattle.parser.proofs.UniqueLaws.{file-unique}
use Rattle.reading.specs.Read.{Accepted}
use Rattle.reading.proofs.ReadLaws.{accepted-unrefused}
use Rattle.listing_text.specs.Listing.{listing}
use Rattle.report.specs.Output.{program_room}
use Rattle.track_output.specs.Track.{TrackOutput}
use Rattle.track_output.specs.OnceLaws.{track-once}
use Rattle.editions.specs.Rewritten.{rewritten, rewritten_file}
use Rattle.editions.proofs.NumbersLaws.{numbers-rewritten}
use Rattle.editions.proofs.FileLaws.{accepted-rewritten}

module _ (σ : Sheet) (edition : σ.edition ≡ StateBased) where
  pub numbers-edition : (numbers σ).edition ≡ StateBased
  unfolding numbers
  numbers-edition = edition

  -- what holds of the numbers with marks holds of those of the sheet rewritten
  pub carried : (P : Automaton → Type 0) → P (marked_into (numbers σ)) → P (numbers (rewritten σ))
  carried P = subst P (sym (numbers-rewritten σ))

  -- the tracker in the tables is a tracker of both, and neither has too many tuples or both have
  pub over-rewritten : {room : ℕ} → MoreThan (numbers σ) room → MoreThan (numbers (rewritten σ)) room
  over-rewritten {room} more = carried (λ (A : Automaton). MoreThan A room) ((rewritten-more (numbers σ) numbers-edition).1 more)

  pub fitted-rewritten : {room count : ℕ} {before after : TrackerTables} → Fitted (numbers σ) room before after count → Fitted (numbers (rewritten σ)) room before after count
  fitted-rewritten {room} {count} {before} {after} fitted =
      carried (λ (A : Automaton). Fitted A room before after count) ((rewritten-fitted (numbers σ) numbers-edition).1 fitted)

  module _ {s : List ℕ} (accepted : Accepted s σ) where
    -- what `track` may print of the file, it may print of the file rewritten
    pub track-rewritten : (text : List ℕ) → TrackOutput s text → TrackOutput (rewritten_file σ) text
    unfolding rewritten
    track-rewritten text (TrackOutput.refused before after r h e) = absurd (accepted-unrefused accepted h)
    track-rewritten text (TrackOutput.no_room τ h over e) =
        let same = file-unique s τ σ h.file accepted.file in
        TrackOutput.no_room (rewritten σ) (accepted-rewritten σ accepted) (over-rewritten (subst (λ (υ : Sheet). MoreThan (numbers υ) program_room) same over)) e
    track-rewritten text (TrackOutput.listed τ h before after count fitted e) =
        let same = file-unique s τ σ h.file accepted.file in
        let here = subst (λ (υ : Sheet). Fitted (numbers υ) program_room before after count) same fitted in
        let shown = subst (λ (υ : Sheet). text ≡ listing υ.n υ.k count after.tuples after.nexts) same e in
        TrackOutput.listed (rewritten σ) (accepted-rewritten σ accepted) before after count (fitted-rewritten here) shown

    -- THE VERY SAME LISTING: whatever it prints of the two, the bytes are the same
    pub track-same : {text other : List ℕ} → TrackOutput s text → TrackOutput (rewritten_file σ) other → text ≡ other
    track-same {text} h g = track-once (track-rewritten text h) g
