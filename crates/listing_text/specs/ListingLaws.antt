-- What a listing shows of a tracker: the numbers that it has, and that the other cells are zero.
use Rattle.std.specs.Prelude.{ℕ, ◌/◌, ◌%◌, ◌≤◌, ◌<◌, ◌≡◌, List, get_or}
use Rattle.tuple_record.specs.Record.{set_cells, record_start, set_in, colour_in, from_in, letter_in}
use Rattle.numbering.specs.Numbering.{WayFrom}
use Rattle.listing_lines.specs.PutLine.{ListingLimits}

-- cell c is the first of the next numbers that has tuple t, so step c finds it
pub record FirstNext (nexts : List ℕ) (t c : ℕ) : Type 0 where
  pub enters : get_or nexts c 0 ≡ t
  pub earliest : (d : ℕ) → d < c → get_or nexts d 0 ≡ t → ⊥

-- the numbers of a tracker as a listing shows them: each has its columns, but for the ways back, which the next numbers tell; and every cell that is not
-- listed is zero
pub record Shown (n k count : ℕ) (tuples nexts : List ℕ) : Type 0 where
  pub sizes : ListingLimits n k count
  pub sets : (t i : ℕ) → i < set_cells → set_in tuples t i < 65536
  pub colours : (t : ℕ) → colour_in tuples t ≤ 33
  pub next : (c : ℕ) → get_or nexts c 0 < 1024
  pub ways : (t : ℕ) → t < count → WayFrom (FirstNext nexts t) t (from_in tuples t) (letter_in tuples t)
  pub no-set : (t i : ℕ) → n ≤ i → i < set_cells → set_in tuples t i ≡ 0
  pub no-tuple : (i : ℕ) → record_start count ≤ i → get_or tuples i 0 ≡ 0
  pub no-next : (c : ℕ) → (c / 8 < count → c % 8 < k → ⊥) → get_or nexts c 0 ≡ 0
