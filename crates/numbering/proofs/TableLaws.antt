-- A numbering fixes its tables, cell by cell. Assumes nothing.
use Rattle.std.specs.Prelude.{ℕ, ◌+◌, ◌/◌, ◌%◌, ◌<◌, ◌≡◌, List, length, get_or}
use Rattle.std.proofs.Common.{sym, ap, ◌∙◌, arith}
use Rattle.std.proofs.Math.Decide.{dec_lt}
use Rattle.lists.specs.CellsLaws.{part_at}
use Rattle.automaton.specs.Automaton.{Automaton}
use Rattle.tuple_record.specs.Record.{set_cells, row_cells, record_cells, record_start}
use Rattle.tuple_record.specs.RecordLaws.{CellOf, cell-of}
use Rattle.tuple.specs.Step.{Tuple}
use Rattle.numbering.specs.Numbering.{Distinct, TupleCells, NextCells}
use Rattle.numbering.proofs.ExploreLaws.{way-once, found-once}
use Rattle.numbering.proofs.NumberingLaws.{numbers_apart}

module _ (A : Automaton) (ts : List Tuple) where
  pub tuple-cells-once : (a b : List ℕ) → TupleCells A ts a → TupleCells A ts b → (i : ℕ) → get_or a i 0 ≡ get_or b i 0
  tuple-cells-once a b p q i = by (dec_lt (i / record_cells) (length ts)) (cell-of i)
    where
      of_row : (t j : ℕ) → t < length ts → j < row_cells → get_or a (record_start t + j) 0 ≡ get_or b (record_start t + j) 0
      of_row t j h k =
          sym (part_at a (record_start t) row_cells j k)
          ∙ (ap (λ (l : List ℕ). get_or l j 0) (p.row t h ∙ sym (q.row t h)) ∙ part_at b (record_start t) row_cells j k)

      by : Dec (i / record_cells < length ts) → CellOf (i / record_cells) i → get_or a i 0 ≡ get_or b i 0
      by (no h) x = p.zero i (omega arith) ∙ sym (q.zero i (omega arith))
      by (yes h) (CellOf.set-cell j k e) = rw e (of_row (i / record_cells) j h (omega arith))
      by (yes h) (CellOf.colour-cell e) = rw e (of_row (i / record_cells) set_cells h (omega arith))
      by (yes h) (CellOf.from-cell e) = rw e (way-once (found-once A ts (i / record_cells)) (p.way (i / record_cells) h) (q.way (i / record_cells) h)).0
      by (yes h) (CellOf.letter-cell e) = rw e (way-once (found-once A ts (i / record_cells)) (p.way (i / record_cells) h) (q.way (i / record_cells) h)).1

  pub next-cells-once : Distinct A ts → (a b : List ℕ) → NextCells A ts a → NextCells A ts b → (c : ℕ) → get_or a c 0 ≡ get_or b c 0
  next-cells-once distinct a b p q c = by (dec_lt (c / 8) (length ts)) (dec_lt (c % 8) A.k)
    where
      by : Dec (c / 8 < length ts) → Dec (c % 8 < A.k) → get_or a c 0 ≡ get_or b c 0
      by (yes h) (yes l) =
          let (i, x) = p.next c h l in
          let (j, y) = q.next c h l in
          numbers_apart A ts distinct (get_or a c 0) (get_or b c 0) i j (x ∙ sym y)
      by (yes h) (no l) = p.zero c (λ g k. l k) ∙ sym (q.zero c (λ g k. l k))
      by (no h) l = p.zero c (λ g k. h g) ∙ sym (q.zero c (λ g k. h g))
