-- A line of a listing: its length, and how it is written part by part. Assumes nothing.
use Rattle.std.specs.Prelude.{ℕ, ◌+◌, ◌*◌, ◌≡◌, refl, List, [], ◌∷◌, ◌++◌, length}
use Rattle.std.proofs.Common.{◌∙◌, arith, length-append}
use Rattle.std.proofs.lemmas.List.Edits.{sets}
use Rattle.text.specs.Bytes.{lf}
use Rattle.tuple_record.specs.Record.{set_in, colour_in}
use Rattle.columns.specs.Column.{column}
use Rattle.columns.specs.ColumnLaws.{column-length}
use Rattle.lists.specs.StoreLaws.{sets-part}
use Rattle.text.specs.PiecesLaws.{pieces-length}
use Rattle.listing_lines.specs.ListingLine.{columns, track_line, tuple_line}
use Rattle.listing_lines.specs.PutLine.{cells_from, line_bytes}

-- LENGTHS

pub columns-length : (w : ℕ) (f : ℕ → ℕ) (count : ℕ) → length (columns w f count) ≡ count * w
columns-length w f count = pieces-length (λ i. column w (f i)) w (λ i. column-length w (f i)) 0 count

pub line-length : (n k : ℕ) (tuples nexts : List ℕ) (t : ℕ) → length (tuple_line n k tuples nexts t) ≡ line_bytes n k
unfolding tuple_line
line-length n k tuples nexts t = simp (length-append, column-length, columns-length) (omega arith)

pub track-line-length : (n k count : ℕ) → length (track_line n k count) ≡ 17
unfolding track_line
track-line-length n k count = simp (length-append, column-length)

-- PART BY PART

pub first-put : (out : List ℕ) (n k count : ℕ)
    → sets out 0 (track_line n k count)
    ≡ sets (sets (sets (sets (sets out 0 (84 ∷ 82 ∷ 65 ∷ 67 ∷ 75 ∷ [])) 5 (column 3 n)) 8 (column 3 k)) 11 (column 5 count)) 16 (10 ∷ [])
unfolding track_line
first-put out n k count =
    let a = sets out 0 (84 ∷ 82 ∷ 65 ∷ 67 ∷ 75 ∷ []) in
    let b = sets a 5 (column 3 n) in
    let c = sets b 8 (column 3 k) in
    sets-part (column 3 n) (column 3 k ++ (column 5 count ++ (lf ∷ []))) a 5 8 (omega (arith, column-length 3 n))
    ∙ sets-part (column 3 k) (column 5 count ++ (lf ∷ [])) b 8 11 (omega (arith, column-length 3 k))
    ∙ sets-part (column 5 count) (lf ∷ []) c 11 16 (omega (arith, column-length 5 count))

pub tuple-put : (out : List ℕ) (at n k : ℕ) (tuples nexts : List ℕ) (t : ℕ)
    → sets out at (tuple_line n k tuples nexts t)
    ≡ sets
    (sets
    (sets (sets (sets (sets out at (81 ∷ [])) (at + 1) (column 5 t)) (at + 6) (column 3 (colour_in tuples t))) (at + 9)
    (columns 6 (set_in tuples t) n))
    (at + 9 + 6 * n) (columns 5 (cells_from nexts (8 * t)) k))
    (at + 9 + 6 * n + 5 * k) (10 ∷ [])
unfolding tuple_line
tuple-put out at n k tuples nexts t =
    let x = column 5 t in
    let y = column 3 (colour_in tuples t) in
    let z = columns 6 (set_in tuples t) n in
    let u = columns 5 (cells_from nexts (8 * t)) k in
    let a = sets out at (81 ∷ []) in
    let b = sets a (at + 1) x in
    let c = sets b (at + 6) y in
    let d = sets c (at + 9) z in
    sets-part (81 ∷ []) (x ++ (y ++ (z ++ (u ++ (lf ∷ []))))) out at (at + 1) refl
    ∙ sets-part x (y ++ (z ++ (u ++ (lf ∷ [])))) a (at + 1) (at + 6) (omega (arith, column-length 5 t))
    ∙ sets-part y (z ++ (u ++ (lf ∷ []))) b (at + 6) (at + 9) (omega (arith, column-length 3 (colour_in tuples t)))
    ∙ sets-part z (u ++ (lf ∷ [])) c (at + 9) (at + 9 + 6 * n) (omega (arith, columns-length 6 (set_in tuples t) n))
    ∙ sets-part u (lf ∷ []) d (at + 9 + 6 * n) (at + 9 + 6 * n + 5 * k) (omega (arith, columns-length 5 (cells_from nexts (8 * t)) k))
