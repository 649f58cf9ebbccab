-- Document 01, "Known cases": what a case is, and what it says of every outcome that the contracts of the verdict and of building allow.
use Rattle.std.specs.Prelude.{ℕ, ◌≤◌, ◌≡◌, List, map, length, Err, Ok, Result}
use Rattle.gate.specs.Gate.{refusal}
use Rattle.gate.specs.declared.Refusal.{Refusal}
use Rattle.automaton.specs.Automaton.{graph_of}
use Rattle.automaton.specs.Endless.{MeetingWitness}
use Rattle.format.specs.Format.{Sheet, FileIs}
use Rattle.format.specs.Numbers.{numbers}
use Rattle.tuple.specs.Step.{Tuple}
use Rattle.tracker.specs.declared.Tracker.{Tracker}
use Rattle.filling.specs.TrackerTables.{TrackerTables, Holds}
use Rattle.tracker.specs.Build.{BuildTables, EnoughToBuild}
use Rattle.building.specs.FileBuild.{Builds}
use Rattle.passes.specs.declared.Verdict.{Verdict}
use Rattle.plan_verdict.specs.Verdict.{Judgement}

-- what is expected of a case
pub data Expected : Type 0 where
  -- yes or no with least colour and passes, and the colours of the tracker's tuples in their order
  judged : Verdict → List ℕ → Expected
  -- a refusal with its line
  refused : ℕ → ℕ → Expected
  -- 10, with a word and two walks on it
  meeting : List ℕ → List ℕ → List ℕ → Expected

-- a sheet file, a plan file and a room
pub record Case : Type 0 where
  pub sheet : List ℕ
  pub plan : List ℕ
  pub room : ℕ
  pub expected : Expected

-- the tables hold the tracker of the sheet file s, and its tuples have these colours
pub record Tracked (s : List ℕ) (before after : TrackerTables) (colours : List ℕ) : Type 0 where
  pub sheet : Sheet
  pub file : FileIs s sheet
  pub tuples : List Tuple
  pub holds : Holds (numbers sheet) tuples before after
  pub coloured : map (λ u. u.colour) tuples ≡ colours

-- the walks meet on the word, and on no shorter word do any
pub record Shortest (s word one other : List ℕ) : Type 0 where
  pub sheet : Sheet
  pub file : FileIs s sheet
  pub witness : MeetingWitness (graph_of (numbers sheet)) (length word) word one other

-- refusal 10 with a word of so many letters
abbrev pub met : ℕ → Refusal
met t = record { number = 10; line = 0; length = t }

-- the outcome of a verdict is the expected one
abbrev pub VerdictIs : List ℕ → TrackerTables → TrackerTables → Result Verdict Refusal → Expected → Type 0
VerdictIs s before after o (judged z colours) = (o ≡ Ok z) × Tracked s before after colours
VerdictIs s before after o (refused number line) = o ≡ Err (refusal number line)
VerdictIs s before after o (meeting word one other) = (o ≡ Err (met (length word))) × Shortest s word one other

-- the questions on a plan
abbrev pub OfPlan : ℕ → Type 0
OfPlan number = (12 ≤ number) × (number ≤ 14)

-- and so is that of building, which asks none of these
abbrev pub BuiltIs : List ℕ → TrackerTables → TrackerTables → Result Tracker Refusal → Expected → Type 0
BuiltIs s before after o (judged z colours) = ((x : Tracker) × (o ≡ Ok x) × (x.tuples ≡ length colours)) × Tracked s before after colours
BuiltIs s before after o (refused number line) = (OfPlan number → ⊥) → o ≡ Err (refusal number line)
BuiltIs s before after o (meeting word one other) = (o ≡ Err (met (length word))) × Shortest s word one other

-- THE DEFINITIONS ALONE give what is expected: it is every outcome that they allow, in tables that are long enough
pub record Forced (c : Case) : Type 0 where
  pub verdict : (before after : BuildTables) (o : Result Verdict Refusal) → EnoughToBuild c.room before
      → Judgement c.sheet c.plan c.room before after o → VerdictIs c.sheet before.tracker after.tracker o c.expected
  pub building : (before after : BuildTables) (o : Result Tracker Refusal) → EnoughToBuild c.room before
      → Builds c.sheet c.room before after o → BuiltIs c.sheet before.tracker after.tracker o c.expected
