-- `track` prints one text for an input: its refusal's line, or the listing of its sheet's tracker. Assumes nothing.
use Rattle.std.specs.Prelude.{ℕ, ◌≤◌, ◌≡◌, List}
use Rattle.std.proofs.Common.{sym, ap₂, ◌∙◌}
use Rattle.std.proofs.Math.Path.{subst}
use Rattle.format.specs.Format.{Sheet}
use Rattle.format.specs.Numbers.{numbers}
use Rattle.parser.proofs.UniqueLaws.{file-unique}
use Rattle.reading.specs.Read.{Accepted}
use Rattle.reading.proofs.ReadLaws.{refuses-once, accepted-unrefused}
use Rattle.numbering.specs.Numbering.{MoreThan}
use Rattle.numbering.proofs.NumberingLaws.{more-excludes}
use Rattle.filling.specs.TrackerTables.{TrackerTables, Fitted}
use Rattle.listing_text.specs.Listing.{listing}
use Rattle.listing_text.specs.SameListing.{listing-fixed}
use Rattle.report.specs.Report.{refusal_line}
use Rattle.report.specs.Output.{program_room}
use Rattle.track_output.specs.Track.{TrackOutput}

module _ {s : List ℕ} {σ τ : Sheet} (a : Accepted s σ) (b : Accepted s τ) where
  same-sheet : τ ≡ σ
  same-sheet = file-unique s τ σ b.file a.file

  -- a tracker that fits has not too many tuples
  not-over : {before after : TrackerTables} {count : ℕ} → MoreThan (numbers σ) program_room → Fitted (numbers τ) program_room before after count → ⊥
  not-over {before} {after} {count} more fitted =
      let f = subst (λ (υ : Sheet). Fitted (numbers υ) program_room before after count) same-sheet fitted in
      more-excludes (numbers σ) program_room f.list more f.holds.numbering (subst (λ (n : ℕ). n ≤ program_room) f.count-is f.room-is)

  same-listed : {v w before after : TrackerTables} {m n : ℕ} → Fitted (numbers σ) program_room v w m → Fitted (numbers τ) program_room before after n
      → listing σ.n σ.k m w.tuples w.nexts ≡ listing τ.n τ.k n after.tuples after.nexts
  unfolding numbers
  same-listed {v} {w} {before} {after} {m} {n} f g =
      subst (λ (υ : Sheet). Fitted (numbers υ) program_room before after n → listing σ.n σ.k m w.tuples w.nexts ≡ listing υ.n υ.k n after.tuples after.nexts)
      (sym same-sheet) (λ g. listing-fixed f g) g

pub track-once : {s text other : List ℕ} → TrackOutput s text → TrackOutput s other → text ≡ other
track-once (TrackOutput.refused v w r h e) (TrackOutput.refused before after q g d) = let (number, line) = refuses-once h g in e ∙ ap₂ refusal_line number line ∙ sym d
track-once (TrackOutput.refused v w r h e) (TrackOutput.no_room τ b more d) = absurd (accepted-unrefused b h)
track-once (TrackOutput.refused v w r h e) (TrackOutput.listed τ b before after n g d) = absurd (accepted-unrefused b h)
track-once (TrackOutput.no_room σ a more e) (TrackOutput.refused before after q g d) = absurd (accepted-unrefused a g)
track-once (TrackOutput.no_room σ a more e) (TrackOutput.no_room τ b over d) = e ∙ sym d
track-once (TrackOutput.no_room σ a more e) (TrackOutput.listed τ b before after n g d) = absurd (not-over a b more g)
track-once (TrackOutput.listed σ a v w m f e) (TrackOutput.refused before after q g d) = absurd (accepted-unrefused a g)
track-once (TrackOutput.listed σ a v w m f e) (TrackOutput.no_room τ b over d) = absurd (not-over b a over f)
track-once (TrackOutput.listed σ a v w m f e) (TrackOutput.listed τ b before after n g d) = e ∙ same-listed a b f g ∙ sym d
