-- The tables of a tracker that is built: the sets, the colour and the way back of each tuple, zero behind the last, next numbers below the count, and
-- the lengths. Assumes nothing.
use Rattle.std.specs.Prelude.{ℕ, ◌+◌, ◌/◌, ◌%◌, ◌≤◌, ◌<◌, ◌≡◌, List, length, get_or}
use Rattle.std.proofs.Common.{sym, ap, ◌∙◌, arith}
use Rattle.std.proofs.Math.Decide.{dec_lt}
use Rattle.tuple_record.specs.Record.{set_cells, row_cells, record_start, set_in, colour_in, from_in, letter_in}
use Rattle.lists.specs.CellsLaws.{part_at}
use Rattle.automaton.specs.Automaton.{Automaton, Fits}
use Rattle.tuple.specs.Step.{Tuple, place_set, Formed}
use Rattle.tuple.specs.Row.{row}
use Rattle.tuple.specs.RowLaws.{row-set, row-colour}
use Rattle.numbering.specs.Numbering.{Reachable, tuple_at, FirstFound}
use Rattle.numbering.proofs.NumberingLaws.{numbering-reachable}
use Rattle.filling.specs.TrackerTables.{cleared_tracker, Fitted}
use Rattle.expanding.specs.Tables.{TrackerTables, EnoughForTracker}
use Rattle.expanding.specs.TablesLaws.{room-alike}
use Rattle.expanding.specs.FormedLaws.{reachable-formed}
use Rattle.filling.specs.TrackerTablesLaws.{room-less, cleared-alike}

module _ (A : Automaton) (fits : Fits A) (room m : ℕ) (v w : TrackerTables) (f : Fitted A room v w m) where
  -- tuple t of the tracker
  abbrev pub tuple : ℕ → Tuple
  tuple t = tuple_at A f.list t

  reachable : (t : ℕ) → t < length f.list → Reachable A (tuple t)
  reachable = numbering-reachable A f.list f.holds.numbering

  pub fitted-formed : (t : ℕ) → t < m → Formed A (tuple t)
  fitted-formed t h = let e = f.count-is in reachable-formed fits (tuple t) (reachable t (omega arith))

  fitted-cell : (t j : ℕ) → t < m → j < row_cells → get_or w.tuples (record_start t + j) 0 ≡ get_or (row (tuple t)) j 0
  fitted-cell t j h k =
      let e = f.count-is in
      sym (part_at w.tuples (record_start t) row_cells j k) ∙ ap (λ (l : List ℕ). get_or l j 0) (f.holds.tuples.row t (omega arith))

  few : (t : ℕ) → t < m → length (tuple t).sets ≤ set_cells
  few t h = let a = (fitted-formed t h).few in let b = fits.range.1 in omega arith

  pub fitted-set : (t i : ℕ) → t < m → i < set_cells → set_in w.tuples t i ≡ place_set (tuple t).sets i
  fitted-set t i h k = fitted-cell t i h (omega arith) ∙ row-set (tuple t) (few t h) i k

  pub fitted-colour : (t : ℕ) → t < m → colour_in w.tuples t ≡ (tuple t).colour
  fitted-colour t h = fitted-cell t set_cells h (omega arith) ∙ row-colour (tuple t) (few t h)

  pub fitted-way : (t : ℕ) → t < m → FirstFound A f.list t (from_in w.tuples t) (letter_in w.tuples t)
  fitted-way t h = let e = f.count-is in f.holds.tuples.way t (omega arith)

  pub fitted-behind : (i : ℕ) → record_start m ≤ i → get_or w.tuples i 0 ≡ 0
  fitted-behind i h = let e = f.count-is in f.holds.tuples.zero i (omega arith)

  -- every next number is that of a tuple counted
  pub fitted-next : (c : ℕ) → get_or w.nexts c 0 < m
  fitted-next c =
      let e = f.count-is in
      let some = f.holds.numbering.some in
      elim (dec_lt (c / 8) (length f.list)) [
        | yes x ↦ elim (dec_lt (c % 8) A.k) [
          | yes y ↦ let z = (f.holds.nexts.next c x y).0 in omega arith
          | no y ↦ let z = f.holds.nexts.zero c (λ a b. y b) in omega arith
        ]
        | no x ↦ let z = f.holds.nexts.zero c (λ a b. x a) in omega arith
      ]

  -- the tables are as long as they were, so they are long enough for the tuples that there are
  pub fitted-room : EnoughForTracker room v → EnoughForTracker m w
  fitted-room r =
      let c = f.count-is in
      let some = f.holds.numbering.some in
      room-alike f.holds.same-tuples f.holds.same-nexts (room-less (omega arith) f.room-is r)

  pub fitted-cleared : cleared_tracker w ≡ cleared_tracker v
  fitted-cleared = cleared-alike w v f.holds.same-tuples f.holds.same-nexts
