-- Document 02, R-13, "Not only cycles": what is said of a tracker's lent tables and an endless sequence of letters, repeating or not.
use Rattle.std.specs.Prelude.{ℕ, ◌%◌, ◌≤◌, ◌<◌, ◌≡◌, ◌↔◌}
use Rattle.automaton.specs.Automaton.{Automaton}
use Rattle.automaton.specs.Reading.{Passes}
use Rattle.theory.specs.Run.{EnteredWithoutEnd}
use Rattle.filling.specs.TrackerTables.{TrackerTables}
use Rattle.passes.specs.TableRun.{entered_in}

-- the colour that the tracker in these tables enters on letter t of w: from tuple 0, by the next number of each letter
abbrev pub colours_on : TrackerTables → (ℕ → ℕ) → ℕ → ℕ
colours_on tables w t = entered_in tables.tuples tables.nexts 0 w t

-- "the least colour that the tracker enters without end", where col t is the colour entered on letter t: it is entered without end, and no lesser one is
pub record LeastWithoutEnd (col : ℕ → ℕ) (c : ℕ) : Type 0 where
  pub entered : EnteredWithoutEnd col c
  pub least : (d : ℕ) → EnteredWithoutEnd col d → c ≤ d

-- THE STATEMENT, of the sheet A and the word w. There is a least colour that the tracker enters without end, and it "is even exactly if some endless reading by
-- the sheet meets its recurrence rule" (`Passes`, the one that the verdict goes by).
pub record TracksWord (A : Automaton) (tables : TrackerTables) (w : ℕ → ℕ) : Type 0 where
  pub colour : ℕ
  pub least : LeastWithoutEnd (colours_on tables w) colour
  pub right : (colour % 2 ≡ 0) ↔ Passes A w

-- "for every endless sequence of letters, repeating or not"
abbrev pub TracksWords : Automaton → TrackerTables → Type 0
TracksWords A tables = (w : ℕ → ℕ) → ((t : ℕ) → w t < A.k) → TracksWord A tables w
