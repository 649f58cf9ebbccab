-- A sheet rewritten with a mark on every transition into a must-recur state: building from its numbers answers the same. Assumes nothing.
use Rattle.std.specs.Prelude.{ℕ, ◌≤◌, ◌≡◌, refl, length, Err, Ok, Result}
use Rattle.tracker.specs.declared.Tracker.{Tracker}
use Rattle.std.proofs.Common.{ap}
use Rattle.automaton.specs.Automaton.{Automaton, Fits, AreNumbers}
use Rattle.automaton.specs.QuestionLaws.{fits-first-no}
use Rattle.automaton.specs.Rewritten.{marked_into}
use Rattle.automaton.proofs.RewrittenLaws.{rewritten-length, rewritten-fits}
use Rattle.automaton.specs.declared.Edition.TheVariants.{StateBased, TransitionBased}
use Rattle.automaton.specs.declared.Numbers.{Numbers}
use Rattle.lent.specs.Lent.{WitnessTables, NumbersRefuse}
use Rattle.gate.specs.declared.Refusal.{Refusal}
use Rattle.numbering.proofs.SameNumbering.{rewritten-more}
use Rattle.filling.specs.TrackerTables.{TrackerTables}
use Rattle.filling.proofs.SameTracker.{rewritten-fitted}
use Rattle.tracker.specs.Build.{BuildNumbersTables, EnoughToBuildNumbers, Tracks, BuildsNumbers}

-- the same refusal, or the tracker of the rewritten sheet's numbers
abbrev pub rewritten_numbers : Numbers → Numbers
rewritten_numbers a = record { edition = TransitionBased; n = a.n; k = a.k; initial = a.initial; recurring = 0 }

abbrev pub rewritten_built : Result Tracker Refusal → Result Tracker Refusal
rewritten_built (Err r) = Err r
rewritten_built (Ok x) = Ok (record { numbers = rewritten_numbers x.numbers; tuples = x.tuples })

pub rewritten-numbers : (A : Automaton) {a : Numbers} → AreNumbers A a → AreNumbers (marked_into A) (rewritten_numbers a)
rewritten-numbers A e = record { edition = refl; n = e.n; k = e.k; initial = e.initial; recurring = refl }

-- a sheet that fits, with its own marks lent in full
module _ (A : Automaton) (edition : A.edition ≡ StateBased) (fits : Fits A) (full : 128 ≤ length A.marks) where
  pub rewritten-enough : {room : ℕ} {before : BuildNumbersTables} → EnoughToBuildNumbers A room before → EnoughToBuildNumbers (marked_into A) room before
  rewritten-enough e =
      let l = e.lengths in
      record {
        lengths = record { tables = record { cells = l.tables.cells; marks = rw (rewritten-length A) l.tables.cells }; long = l.long };
        tracker = e.tracker;
      }

  pub rewritten-enough⁻ : {room : ℕ} {before : BuildNumbersTables} → EnoughToBuildNumbers (marked_into A) room before → EnoughToBuildNumbers A room before
  rewritten-enough⁻ e =
      let l = e.lengths in
      record { lengths = record { tables = record { cells = l.tables.cells; marks = full }; long = l.long }; tracker = e.tracker }

  -- of the questions on the numbers only 10 refuses, and it asks the graph
  rewritten-refused : {before after : WitnessTables} {r : Refusal} → NumbersRefuse A before after r → NumbersRefuse (marked_into A) before after r
  rewritten-refused (NumbersRefuse.unfit number x e z) = absurd (fits-first-no A number fits x)
  rewritten-refused (NumbersRefuse.meeting f m) = NumbersRefuse.meeting (rewritten-fits A fits) m

  rewritten-tracks : (room : ℕ) (before after : TrackerTables) (b : Result Tracker Refusal) → Tracks A room before after b → Tracks (marked_into A) room before after (rewritten_built b)
  rewritten-tracks room before after (Err r) (more, e, z) = ((rewritten-more A edition).1 more, e, z)
  rewritten-tracks room before after (Ok x) (are, fitted) = (rewritten-numbers A are, (rewritten-fitted A edition).1 fitted)

  pub rewritten-builds : {room : ℕ} {before after : BuildNumbersTables} (b : Result Tracker Refusal) → BuildsNumbers A room before after b
      → BuildsNumbers (marked_into A) room before after (rewritten_built b)
  rewritten-builds b (BuildsNumbers.short n e same) = BuildsNumbers.short (λ l. n (rewritten-enough⁻ l)) (ap rewritten_built e) same
  rewritten-builds b (BuildsNumbers.refused l r x e z) = BuildsNumbers.refused (rewritten-enough l) r (rewritten-refused x) (ap rewritten_built e) z
  rewritten-builds {room} {before} {after} b (BuildsNumbers.asked l f free z is) =
      BuildsNumbers.asked (rewritten-enough l) (rewritten-fits A f) free z (rewritten-tracks room before.tracker after.tracker b is)
