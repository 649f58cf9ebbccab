-- A record that is written behind others: its cells, and those of the others. Assumes nothing.
use Rattle.std.specs.Prelude.{ℕ, suc, ◌+◌, ◌/◌, ◌%◌, ◌≤◌, ◌<◌, ◌≡◌, List, [], ◌∷◌, length, get_or, set}
use Rattle.std.proofs.Common.{sym, ap, ◌∙◌, arith, length-append, get_or-append-add}
use Rattle.std.proofs.Math.Decide.{dec_lt}
use Rattle.std.proofs.lemmas.List.Edits.{sets}
use Rattle.std.proofs.Math.Seq.{length-sets}
use Rattle.lists.specs.StoreLaws.{sets-part, part-stored, part-kept, cell-beside, stored-cell}
use Rattle.tuple_record.specs.declared.WayBack.{WayBack}
use Rattle.tuple_record.specs.Record.{set_cells, row_cells, from_cell, letter_cell, record_cells, record_start, row_at, from_in, letter_in, record_of, Stored}

-- cell by cell: the row, then the tuple, then the letter
pub record-written : (table row : List ℕ) (way : WayBack) (at : ℕ) → length row ≡ row_cells
    → set (set (sets table at row) (at + from_cell) way.from) (at + letter_cell) way.letter ≡ sets table at (record_of row way)
record-written table row way at e =
    let k : suc (at + from_cell) ≡ at + letter_cell = omega arith in
    sym (sets-part row (way.from ∷ way.letter ∷ []) table at (at + from_cell) (omega arith) ∙ ap (λ (i : ℕ). set (set (sets table at row) (at + from_cell) way.from) i way.letter) k)

module _ {before after row : List ℕ} {way : WayBack} {m : ℕ} (s : Stored before after m row way) where
  size : length (record_of row way) ≡ record_cells
  size = let e = s.cells in length-append row (way.from ∷ way.letter ∷ []) ∙ omega arith

  pub record-length : length after ≡ length before
  record-length = ap length s.is ∙ length-sets before (record_start m) (record_of row way)

  -- ahead of it and behind it nothing moves
  pub row_kept : (t : ℕ) → t < m → row_at after t ≡ row_at before t
  row_kept t h = ap (λ (l : List ℕ). row_at l t) s.is ∙ part-kept row_cells before (record_of row way) (record_start m) (record_start t) (omega arith)

  ahead : (i : ℕ) → i < record_start m → get_or after i 0 ≡ get_or before i 0
  ahead i h = ap (λ (l : List ℕ). get_or l i 0) s.is ∙ cell-beside (record_of row way) before (record_start m) i (λ l k. omega arith)

  pub from-kept : (t : ℕ) → t < m → from_in after t ≡ from_in before t
  from-kept t h = ahead (record_start t + from_cell) (omega arith)

  pub letter-kept : (t : ℕ) → t < m → letter_in after t ≡ letter_in before t
  letter-kept t h = ahead (record_start t + letter_cell) (omega arith)

  pub behind-kept : (i : ℕ) → record_start (m + 1) ≤ i → get_or after i 0 ≡ get_or before i 0
  behind-kept i h = ap (λ (l : List ℕ). get_or l i 0) s.is ∙ cell-beside (record_of row way) before (record_start m) i (λ l k. omega (arith, size))

  -- its own cells
  pub stored_row : row_at after m ≡ row
  stored_row =
      let at = record_start m in
      let e = s.cells in
      let l = s.long in
      ap (λ (l : List ℕ). row_at l m) (s.is ∙ sets-part row (way.from ∷ way.letter ∷ []) before at (at + from_cell) (omega arith))
      ∙ part-kept row_cells (sets before at row) (way.from ∷ way.letter ∷ []) (at + from_cell) at (omega arith)
      ∙ part-stored row_cells before row at e (omega arith)

  stored : (j : ℕ) → j < 2 → get_or after (record_start m + (row_cells + j)) 0 ≡ get_or (way.from ∷ way.letter ∷ []) j 0
  stored j h =
      let e : row_cells + j ≡ length row + j = (let c = s.cells in omega arith) in
      let l = s.long in
      ap (λ (l : List ℕ). get_or l (record_start m + (row_cells + j)) 0) s.is
      ∙ stored-cell (record_of row way) before (record_start m) (row_cells + j) (omega (arith, size)) (omega (arith, size))
      ∙ ap (λ (i : ℕ). get_or (record_of row way) i 0) e
      ∙ get_or-append-add row (way.from ∷ way.letter ∷ []) j 0

  pub stored-from : from_in after m ≡ way.from
  stored-from = stored 0 (omega arith)

  pub stored-letter : letter_in after m ≡ way.letter
  stored-letter = stored 1 (omega arith)

-- WHICH CELL OF WHICH TUPLE a cell of a table is

pub data CellOf (t i : ℕ) : Type 0 where
  set-cell : (j : ℕ) → j < set_cells → i ≡ record_start t + j → CellOf t i
  colour-cell : i ≡ record_start t + set_cells → CellOf t i
  from-cell : i ≡ record_start t + from_cell → CellOf t i
  letter-cell : i ≡ record_start t + letter_cell → CellOf t i

pub cell-of : (i : ℕ) → CellOf (i / record_cells) i
cell-of i = by (dec_lt (i % record_cells) set_cells) (dec_lt (i % record_cells) from_cell) (dec_lt (i % record_cells) letter_cell)
  where
    by : Dec (i % record_cells < set_cells) → Dec (i % record_cells < from_cell) → Dec (i % record_cells < letter_cell) → CellOf (i / record_cells) i
    by (yes h) f l = CellOf.set-cell (i % record_cells) h (omega arith)
    by (no h) (yes f) l = CellOf.colour-cell (omega arith)
    by (no h) (no f) (yes l) = CellOf.from-cell (omega arith)
    by (no h) (no f) (no l) = CellOf.letter-cell (omega arith)
