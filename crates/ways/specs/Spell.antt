-- The way back from a tuple as code follows it: what it asks of the table, of the tuple, and of the letters.
use Rattle.std.specs.Prelude.{ℕ, ◌≤◌, ◌<◌, ◌≡◌, List, length, get_or}
use Rattle.tuple_record.specs.Record.{record_start, from_in}
use Rattle.ways.specs.Way.{Reaches}

-- what following asks of a table of `count` tuples: that it is there, and that each step back leads down
pub record LeadsDown (tuples : List ℕ) (count : ℕ) : Type 0 where
  pub most : count ≤ 1024
  pub room : record_start count ≤ length tuples
  pub down : (t : ℕ) → 0 < t → t < count → from_in tuples t < t

-- d steps lead back from t to tuple 0, and they are fewer than the tuples
pub record DepthIs (tuples : List ℕ) (count t d : ℕ) : Type 0 where
  pub reaches : Reaches tuples t d
  pub few : d < count

-- what writing d letters asks: they are met on the way, and there is room for them in letters that are zero
pub record Spelling (tuples : List ℕ) (count t d : ℕ) (letters : List ℕ) : Type 0 where
  pub down : LeadsDown tuples count
  pub tuple : t < count
  pub depth : DepthIs tuples count t d
  pub long : d ≤ length letters
  pub zero : (j : ℕ) → get_or letters j 0 ≡ 0
