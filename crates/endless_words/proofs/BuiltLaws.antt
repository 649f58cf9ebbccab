-- What building answers is enough for the theorem: a tracker, from a sheet file or from numbers, is right on every endless sequence of letters.
use Rattle.std.specs.Prelude.{ℕ, List, Ok}
use Rattle.automaton.specs.Automaton.{Automaton, AreNumbers}
use Rattle.format.specs.Format.{Sheet}
use Rattle.format.specs.Numbers.{numbers}
use Rattle.format.proofs.NumbersLaws.{sheet-fits}
use Rattle.reading.specs.Read.{Accepted}
use Rattle.tracker.specs.declared.Tracker.{Tracker}
use Rattle.tracker.specs.Build.{BuildTables, BuildNumbersTables, BuildsNumbers}
use Rattle.tracker.specs.BuildLaws.{numbers-built, numbers-free}
use Rattle.building.specs.FileBuild.{Builds}
use Rattle.building.specs.FileBuildLaws.{file-built}
use Rattle.theory.specs.Endless.{LPO}
use Rattle.endless_words.specs.EndlessWord.{TracksWords}
use Rattle.endless_words.proofs.Theorem.{endless-word}

-- FROM NUMBERS: the sheet as numbers is A
pub numbers-words : LPO → {A : Automaton} {room : ℕ} {before after : BuildNumbersTables} {x : Tracker} → BuildsNumbers A room before after (Ok x)
    → TracksWords A after.tracker
numbers-words premise h = let (enough, fits, (are, fitted), witness) = numbers-built h in endless-word premise fits (numbers-free h) fitted

-- FROM A SHEET FILE s: it is that of an accepted sheet, whose numbers are the tracker's
pub record FileTracks (s : List ℕ) (after : BuildTables) (x : Tracker) : Type 0 where
  pub sheet : Sheet
  pub accepted : Accepted s sheet
  pub are : AreNumbers (numbers sheet) x.numbers
  pub words : TracksWords (numbers sheet) after.tracker

pub file-words : LPO → {s : List ℕ} {room : ℕ} {before after : BuildTables} {x : Tracker} → Builds s room before after (Ok x) → FileTracks s after x
file-words premise {s} h =
    let (enough, (σ, accepted, are, sets, fitted), witness) = file-built h in
    record { sheet = σ; accepted = accepted; are = are; words = endless-word premise (sheet-fits s σ accepted.file) accepted.free fitted }
