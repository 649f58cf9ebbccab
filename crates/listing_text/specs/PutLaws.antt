-- The text of a listing: its length, and how it is written part by part. Assumes nothing.
use Rattle.std.specs.Prelude.{ℕ, ◌+◌, ◌*◌, ◌≤◌, ◌≡◌, List, [], ◌∷◌, ◌++◌, length}
use Rattle.std.proofs.Common.{◌∙◌, mul-le-mul, arith, length-append}
use Rattle.std.proofs.lemmas.List.Edits.{sets}
use Rattle.text.specs.Bytes.{end_line}
use Rattle.lists.specs.StoreLaws.{sets-part}
use Rattle.text.specs.PiecesLaws.{pieces-length}
use Rattle.listing_lines.specs.ListingLine.{track_line, tuple_line}
use Rattle.listing_lines.specs.PutLine.{line_bytes, ListingLimits}
use Rattle.listing_lines.specs.PutLineLaws.{line-length, track-line-length}
use Rattle.listing_text.specs.Listing.{tuple_lines, listing, listing_bytes}

-- LENGTHS

pub lines-length : (n k : ℕ) (tuples nexts : List ℕ) (count : ℕ) → length (tuple_lines n k tuples nexts count) ≡ count * line_bytes n k
lines-length n k tuples nexts count = pieces-length (tuple_line n k tuples nexts) (line_bytes n k) (line-length n k tuples nexts) 0 count

pub listing-length : (n k count : ℕ) (tuples nexts : List ℕ) → length (listing n k count tuples nexts) ≡ listing_bytes n k count
unfolding listing
listing-length n k count tuples nexts = simp (length-append, track-line-length, lines-length) (omega arith)

-- a product within the bounds of a listing
pub listing-small : (n k count : ℕ) → ListingLimits n k count → count * line_bytes n k ≤ 149504
listing-small n k count s =
    let h : line_bytes n k ≤ 146 = omega (arith, s.states, s.letters) in
    let p : count * line_bytes n k ≤ 1024 * 146 = mul-le-mul s.most h in
    p

-- PART BY PART

pub listing-put : (out : List ℕ) (n k count : ℕ) (tuples nexts : List ℕ)
    → sets out 0 (listing n k count tuples nexts)
    ≡ sets (sets (sets out 0 (track_line n k count)) 17 (tuple_lines n k tuples nexts count)) (17 + count * line_bytes n k) (69 ∷ 78 ∷ 68 ∷ 10 ∷ [])
unfolding listing
listing-put out n k count tuples nexts =
    let ls = tuple_lines n k tuples nexts count in
    sets-part (track_line n k count) (ls ++ end_line) out 0 17 (omega (arith, track-line-length n k count))
    ∙ sets-part ls end_line (sets out 0 (track_line n k count)) 17 (17 + count * line_bytes n k) (omega (arith, lines-length n k tuples nexts count))
