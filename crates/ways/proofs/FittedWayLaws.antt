-- THE THEOREM of R-7, in the tables of a tracker that is built: "Following these back from any tuple reaches tuple 0 and spells a shortest word to it". Assumes nothing.
use Rattle.std.specs.Prelude.{ℕ, ◌<◌, ◌≡◌, List, length}
use Rattle.std.proofs.Common.{sym, ap, subst, ◌∙◌, arith}
use Rattle.automaton.specs.Automaton.{Automaton, Fits}
use Rattle.tuple_record.specs.Record.{row_at}
use Rattle.tuple.specs.Step.{Tuple}
use Rattle.tuple.specs.Row.{tuple_of}
use Rattle.tuple.specs.RowLaws.{formed-row}
use Rattle.numbering.specs.Numbering.{tuple_at}
use Rattle.filling.specs.TrackerTables.{TrackerTables, EnoughForTracker, Fitted}
use Rattle.filling.proofs.FittedLaws.{fitted-formed, fitted-room}
use Rattle.ways.specs.Way.{Spells, ShortestWord}
use Rattle.ways.proofs.WayLaws.{FoundWays, way_down, spells, spelled-few}
use Rattle.ways.proofs.ShortestLaws.{spelled-shortest}
use Rattle.ways.specs.Spell.{LeadsDown}

module _ (A : Automaton) (fits : Fits A) (room m : ℕ) (v w : TrackerTables) (f : Fitted A room v w m) where
  found-ways : FoundWays A f.list w.tuples
  found-ways = record { numbering = f.holds.numbering; way = f.holds.tuples.way }

  -- what following asks of the tables
  pub fitted-down : EnoughForTracker room v → LeadsDown w.tuples m
  fitted-down r =
      let e = f.count-is in
      let enough = fitted-room A fits room m v w f r in
      record {
        most = enough.most;
        room = enough.tuples;
        down = λ t h k. way_down found-ways t h (omega arith);
      }

  -- the tuple in the table is the tracker's
  tuple-there : (t : ℕ) → t < m → tuple_of (row_at w.tuples t) ≡ tuple_at A f.list t
  tuple-there t h =
      let e = f.count-is in
      ap tuple_of (f.holds.tuples.row t (omega arith)) ∙ formed-row fits (fitted-formed A fits room m v w f t h)

  -- the word that its cells spell is a shortest one
  pub fitted-shortest : (t : ℕ) → t < m → (word : List ℕ) → Spells w.tuples t word → ShortestWord A (tuple_of (row_at w.tuples t)) word
  fitted-shortest t h word s =
      let e = f.count-is in
      subst (λ (u : Tuple). ShortestWord A u word) (sym (tuple-there t h))
      (spelled-shortest found-ways t (omega arith) word s fits.range.3)

  -- and every tuple has one, shorter than the count
  pub fitted-word : (t : ℕ) → t < m → (word : List ℕ) × Spells w.tuples t word × ShortestWord A (tuple_of (row_at w.tuples t)) word × (length word < m)
  fitted-word t h =
      let e = f.count-is in
      let (word, s) = spells found-ways t (omega arith) in
      let few = spelled-few found-ways t (omega arith) word s in
      (word, s, fitted-shortest t h word s, omega arith)
