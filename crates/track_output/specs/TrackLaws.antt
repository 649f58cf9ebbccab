-- `track` prints what listing answers, an input that is too long has one answer, and what is read of the input is enough. Assumes nothing.
use Rattle.std.specs.Prelude.{ℕ, ◌+◌, ◌≤◌, ◌<◌, ◌≡◌, refl, List, [], ◌↔◌, length, take, Err, Ok, Result}
use Rattle.std.proofs.Common.{sym, ap, subst, ◌∙◌, arith}
use Rattle.gate.specs.Gate.{refusal, Put}
use Rattle.gate.specs.declared.Refusal.{Refusal}
use Rattle.automaton.specs.Automaton.{AreNumbers}
use Rattle.lent.specs.Lent.{witness_tables}
use Rattle.format.specs.Format.{Sheet, Faulty, most_sheet}
use Rattle.format.specs.Numbers.{numbers}
use Rattle.format.proofs.NumbersLaws.{sheet-fits}
use Rattle.parser.proofs.UniqueLaws.{fault-unique, file-or-fault}
use Rattle.reading.specs.Read.{Refuses}
use Rattle.filling.specs.TrackerTables.{TrackerTables}
use Rattle.tracker.specs.Build.{BuildTables, EnoughToBuild}
use Rattle.building.specs.FileBuild.{Builds}
use Rattle.building.specs.FileBuildLaws.{file-built}
use Rattle.tracker.specs.declared.Tracker.{Tracker}
use Rattle.listing_text.specs.Listing.{listing}
use Rattle.file_listing.specs.FileList.{ListTables, list_tables, Lists}
use Rattle.listing.specs.List.{listing_of}
use Rattle.listing_text.specs.PutLaws.{listing-length, listing-small}
use Rattle.listing_text.proofs.ListingLaws.{fitted-shown}
use Rattle.report.specs.Report.{refusal_line, line_of}
use Rattle.report.specs.ReportLaws.{refusal-length}
use Rattle.report.specs.Output.{program_room, Prints, TooLong}
use Rattle.report.specs.OutputLaws.{zero-again, same-lent, enough}
use Rattle.track_output.specs.Track.{longest_track, TrackOutput}
use Rattle.track_output.specs.Parts.{Behind, Printing}

-- AN INPUT THAT IS TOO LONG

module _ (s text : List ℕ) (long : most_sheet < length s) where
  only-size : TrackOutput s text → text ≡ refusal_line 2 0
  only-size (TrackOutput.refused before after r (Refuses.faulty number line h e z) p) =
      let (a, b) = fault-unique s number 2 line 0 h (Faulty.size long) in
      p ∙ (ap line_of e ∙ rw (a, b))
  only-size (TrackOutput.refused before after r (Refuses.meeting σ h m) p) = absurd (file-or-fault s σ 2 0 h (Faulty.size long))
  only-size (TrackOutput.no_room σ h m p) = absurd (file-or-fault s σ 2 0 h.file (Faulty.size long))
  only-size (TrackOutput.listed σ h before after count x p) = absurd (file-or-fault s σ 2 0 h.file (Faulty.size long))

  by_size : text ≡ refusal_line 2 0 → TrackOutput s text
  by_size p = TrackOutput.refused (witness_tables [] [] []) (witness_tables [] [] []) (refusal 2 0) (Refuses.faulty 2 0 (Faulty.size long) refl refl) p

pub too-long-track : TooLong TrackOutput most_sheet (refusal_line 2 0)
too-long-track s text long = (only-size s text long, by_size s text long)

-- the first 32,769 bytes of the input are enough
pub track-enough : (s text : List ℕ) → TrackOutput s text ↔ TrackOutput (take (most_sheet + 1) s) text
track-enough = enough too-long-track

-- THE ANSWERS OF LISTING, in tables and a buffer that are long enough

-- 2 to 11
refused-output : {s : List ℕ} {before after : BuildTables} {r : Refusal} → EnoughToBuild program_room before
    → Builds s program_room before after (Err r) → TrackOutput s (line_of r)
refused-output lent (Builds.short n e same) = absurd (n lent)
refused-output {before = before} {after} {r} lent (Builds.refused l q x e o z) =
    let k : q ≡ r = cc in
    TrackOutput.refused before.witness after.witness q x (sym (ap line_of k))
refused-output lent (Builds.asked l σ x z (m, e, q) o) = TrackOutput.no_room σ x m (ap line_of e)

same-listing : (x : Tracker) (tracker : TrackerTables) (σ : Sheet) → AreNumbers (numbers σ) x.numbers
    → listing_of x tracker ≡ listing σ.n σ.k x.tuples tracker.tuples tracker.nexts
unfolding numbers
same-listing x tracker σ are = rw (are.n, are.k)

-- the text of a tracker that fits: it is no longer than the longest
listed-output : {s : List ℕ} {before built : BuildTables} (x : Tracker) → Builds s program_room before built (Ok x)
    → TrackOutput s (listing_of x built.tracker) × (length (listing_of x built.tracker) ≤ longest_track)
unfolding numbers
listed-output {s} {before} {built} x builds =
    let (lent, (σ, y, are, o, fitted), z) = file-built builds in
    let tracker = built.tracker in
    let e = same-listing x tracker σ are in
    let shown = fitted-shown (numbers σ) (sheet-fits s σ y.file) program_room x.tuples before.tracker tracker fitted lent.tracker in
    let small = listing-small σ.n σ.k x.tuples shown.sizes in
    let l = listing-length σ.n σ.k x.tuples tracker.tuples tracker.nexts in
    (TrackOutput.listed σ y before.tracker tracker x.tuples fitted e, omega (arith, ap length e))

-- a refusal leaves the buffer all zero

put-behind : (text b c : List ℕ) (l : Result ℕ Refusal) → Put text b c l → Behind l c
put-behind text b c (Err r) (short, e, z) = zero-again b c z
put-behind text b c (Ok m) put = tt

pub list-behind : {s : List ℕ} {before after : ListTables} {l : Result ℕ Refusal} → EnoughToBuild program_room before.build → Lists s program_room before after l
    → Behind l after.output
list-behind lent (Lists.short n e same) = absurd (n lent)
list-behind {before = before} {after} lent (Lists.refused m r x e z) =
    subst (λ (l : Result ℕ Refusal). Behind l after.output) (sym e) (zero-again before.output after.output z)
list-behind {before = before} {after} {l} lent (Lists.asked built x builds put left) =
    put-behind (listing_of x built.tracker) before.output after.output l put

-- behind listing the buffer is c, and behind the answer d
module _ (s b c d : List ℕ) (count : ℕ) (long : longest_track ≤ length b) (kept : length c ≡ length b) where
  line-prints : (r : Refusal) → TrackOutput s (line_of r) → Printing (Err r) c d count → Prints (TrackOutput s) longest_track b d count
  line-prints r o (n, e) =
      let h = refusal-length r.number r.line in
      Prints.printed long (line_of r) o n (omega arith) (e ∙ same-lent (line_of r) b c kept)

  -- behind the last question, whose answer is l
  text-prints : (text : List ℕ) → TrackOutput s text → length text ≤ longest_track → (l : Result ℕ Refusal) → Put text b c l → Printing l c d count
      → Prints (TrackOutput s) longest_track b d count
  text-prints text o h (Err r) (short, e, z) a = absurd (omega arith)
  text-prints text o h (Ok m) (n, within, z) (k, e) = Prints.printed long text o (k ∙ n) h (e ∙ z)

  pub track-prints : {before after : BuildTables} {l : Result ℕ Refusal} → EnoughToBuild program_room before → Lists s program_room (list_tables before b) (list_tables after c) l
      → Printing l c d count → Prints (TrackOutput s) longest_track b d count
  track-prints lent (Lists.short n e same) a = absurd (n lent)
  track-prints lent (Lists.refused m r x e z) a = line-prints r (refused-output lent x) (subst (λ (l : Result ℕ Refusal). Printing l c d count) e a)
  track-prints {l = l} lent (Lists.asked built x builds put left) a =
      let (o, small) = listed-output x builds in
      text-prints (listing_of x built.tracker) o small l put a
