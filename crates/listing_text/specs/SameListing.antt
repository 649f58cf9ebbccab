-- Sheets whose tuples take the same steps have the same listing, byte by byte. Assumes nothing.
use Rattle.std.specs.Prelude.{ℕ, ◌+◌, ◌*◌, ◌≡◌, List, [], ◌∷◌, ◌++◌}
use Rattle.std.proofs.Common.{ap, ◌∙◌}
use Rattle.automaton.specs.Automaton.{Automaton}
use Rattle.automaton.specs.Rewritten.{marked_into}
use Rattle.automaton.specs.declared.Edition.TheVariants.{StateBased}
use Rattle.tuple_record.specs.Record.{set_cells, record_start}
use Rattle.tuple.specs.SameSteps.{SameSteps}
use Rattle.tuple.specs.RewrittenStep.{rewritten-steps}
use Rattle.filling.specs.TrackerTables.{TrackerTables, Fitted}
use Rattle.filling.proofs.FixedLaws.{SameNumbers, fitted-cells}
use Rattle.filling.proofs.SameTracker.{same-cells}
use Rattle.text.specs.Bytes.{lf, end_line}
use Rattle.text.specs.Pieces.{pieces}
use Rattle.columns.specs.Column.{column}
use Rattle.listing_lines.specs.ListingLine.{columns, track_line, tuple_line}
use Rattle.listing_text.specs.Listing.{listing}

-- a line goes by the tables' cells alone
lines-alike : (n k : ℕ) {one other : TrackerTables} → SameNumbers one other → tuple_line n k one.tuples one.nexts ≡ tuple_line n k other.tuples other.nexts
unfolding tuple_line
lines-alike n k same = λ i t.
    81 ∷ (column 5 t
    ++ (column 3 (same.tuples (record_start t + set_cells) i)
    ++ (columns 6 (λ j. same.tuples (record_start t + j) i) n
    ++ (columns 5 (λ l. same.nexts (8 * t + l) i) k ++ (lf ∷ [])))))

pub listing-alike : (n k count : ℕ) {one other : TrackerTables} → SameNumbers one other
    → listing n k count one.tuples one.nexts ≡ listing n k count other.tuples other.nexts
unfolding listing
listing-alike n k count same = ap (λ (line : ℕ → List ℕ). track_line n k count ++ (pieces line 0 count ++ end_line)) (lines-alike n k same)

-- a sheet has one listing, with any room and in any tables
pub listing-fixed : {A : Automaton} {r s m n : ℕ} {v w one other : TrackerTables} → Fitted A r v one m → Fitted A s w other n
    → listing A.n A.k m one.tuples one.nexts ≡ listing A.n A.k n other.tuples other.nexts
listing-fixed {A} {m = m} {other = other} p q =
    let (count, cells) = fitted-cells p q in
    listing-alike A.n A.k m cells ∙ ap (λ (c : ℕ). listing A.n A.k c other.tuples other.nexts) count

-- and so have two whose tuples take the same steps
pub same-listing : {A B : Automaton} → SameSteps A B → {r s m n : ℕ} {v w one other : TrackerTables} → Fitted A r v one m → Fitted B s w other n
    → listing A.n A.k m one.tuples one.nexts ≡ listing B.n B.k n other.tuples other.nexts
same-listing {A} {B} same {m = m} {n} {one = one} {other} p q =
    let (count, cells) = same-cells same p q in
    listing-alike A.n A.k m cells ∙ (λ i. listing (same.states i) (same.letters i) (count i) other.tuples other.nexts)

-- A SHEET REWRITTEN with a mark on every transition into a must-recur state "has the very same listing" (R-9)
pub rewritten-listing : (A : Automaton) → A.edition ≡ StateBased → {r s m n : ℕ} {v w one other : TrackerTables} → Fitted (marked_into A) r v one m → Fitted A s w other n
    → listing A.n A.k m one.tuples one.nexts ≡ listing A.n A.k n other.tuples other.nexts
rewritten-listing A edition = same-listing (rewritten-steps A edition)
