-- Document 01, "A whole listing": the text over the tables' cells.
use Rattle.std.specs.Prelude.{ℕ, ◌+◌, ◌*◌, List, ◌++◌}
use Rattle.text.specs.Bytes.{end_line}
use Rattle.text.specs.Pieces.{pieces}
use Rattle.listing_lines.specs.ListingLine.{track_line, tuple_line}
use Rattle.listing_lines.specs.PutLine.{line_bytes}

-- the lines of the first `count` tuples
abbrev pub tuple_lines : ℕ → ℕ → List ℕ → List ℕ → ℕ → List ℕ
tuple_lines n k tuples nexts count = pieces (tuple_line n k tuples nexts) 0 count

-- "The last line is END."
unfoldable pub listing : ℕ → ℕ → ℕ → List ℕ → List ℕ → List ℕ
listing n k count tuples nexts = track_line n k count ++ (tuple_lines n k tuples nexts count ++ end_line)

-- the bytes of the whole listing
abbrev pub listing_bytes : ℕ → ℕ → ℕ → ℕ
listing_bytes n k count = 21 + count * line_bytes n k
