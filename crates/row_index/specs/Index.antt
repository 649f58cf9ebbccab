-- Rows of numbers in one table, looked up by a digest of their cells.
use Rattle.std.specs.Prelude.{ℕ, ◌+◌, ◌≤◌, ◌<◌, ◌≡◌, List, length, get_or}
use Rattle.tuple_record.specs.declared.WayBack.{WayBack}
use Rattle.tuple_record.specs.Record.{row_cells, record_start, row_at, Stored}
use Rattle.row_index.specs.Digest.{digest_of}

-- The index of m rows, of which row t has digest d t. head holds for each digest one more than the last row with it, and link for each row one
-- more than the row before it with its digest; 0 where there is none.
pub record Index (m : ℕ) (d : ℕ → ℕ) (head link : List ℕ) : Type 0 where
  -- a row's number, or none
  pub head-is : (h : ℕ) → get_or head h 0 ≤ m
  pub link-is : (t : ℕ) → t < m → get_or link t 0 ≤ t
  -- of the digest
  pub head_of : (h t : ℕ) → get_or head h 0 ≡ t + 1 → d t ≡ h
  pub link-of : (t u : ℕ) → t < m → get_or link t 0 ≡ u + 1 → d u ≡ d t
  -- and no row of the digest is passed over
  pub last : (t : ℕ) → t < m → t < get_or head (d t) 0
  pub before : (t u : ℕ) → t < u → u < m → d t ≡ d u → t < get_or link u 0

-- a table's first m rows with their index
pub record Indexed (table : List ℕ) (m : ℕ) (head link : List ℕ) : Type 0 where
  pub rows : record_start m ≤ length table
  pub most : m ≤ 1024
  pub heads : length head ≡ 1024
  pub links : length link ≡ 1024
  pub index : Index m (λ t. digest_of (row_at table t)) head link

-- a row that is looked up, with its digest
pub record Sought (row : List ℕ) (h : ℕ) : Type 0 where
  pub cells : length row ≡ row_cells
  pub digest : h ≡ digest_of row
  pub small : h < 1024

-- row r is this row, or, at m, none of the m rows is
pub record RowFound (table : List ℕ) (m : ℕ) (row : List ℕ) (r : ℕ) : Type 0 where
  pub most : r ≤ m
  pub is : r < m → row_at table r ≡ row
  pub none : r ≡ m → (t : ℕ) → t < m → row_at table t ≡ row → ⊥

-- the table with one row and its way back behind its m rows, and the index
pub record Added (before after : List ℕ) (m : ℕ) (row : List ℕ) (way : WayBack) (head link : List ℕ) : Type 0 where
  pub is : Stored before after m row way
  pub indexed : Indexed after (m + 1) head link
