-- Sheets whose tuples take the same steps have the same tracker: the count of tuples and every cell. Assumes nothing.
use Rattle.std.specs.Prelude.{ℕ, ◌≡◌, ◌↔◌}
use Rattle.automaton.specs.Automaton.{Automaton}
use Rattle.automaton.specs.Rewritten.{marked_into}
use Rattle.automaton.specs.declared.Edition.TheVariants.{StateBased}
use Rattle.tuple.specs.SameSteps.{SameSteps, same_back}
use Rattle.tuple.specs.RewrittenStep.{rewritten-steps}
use Rattle.numbering.proofs.SameNumbering.{same-numbering, same-tuple-cells, same-next-cells}
use Rattle.filling.specs.TrackerTables.{TrackerTables, Fitted}
use Rattle.filling.proofs.FixedLaws.{SameNumbers, fitted-cells, fitted-once}

module _ {A B : Automaton} (same : SameSteps A B) where
  pub same-fitted : {room m : ℕ} {before after : TrackerTables} → Fitted A room before after m → Fitted B room before after m
  same-fitted f =
      let h = f.holds in
      record {
        list = f.list;
        count-is = f.count-is;
        room-is = f.room-is;
        holds = record {
          numbering = same-numbering same h.numbering;
          tuples = same-tuple-cells same h.tuples;
          nexts = same-next-cells same h.nexts;
          same-tuples = h.same-tuples;
          same-nexts = h.same-nexts;
        };
      }

  -- with any room, in any tables
  pub same-cells : {r s m n : ℕ} {v w one other : TrackerTables} → Fitted A r v one m → Fitted B s w other n → (m ≡ n) × SameNumbers one other
  same-cells p q = fitted-cells (same-fitted p) q

  pub same-tracker : {room m n : ℕ} {before one other : TrackerTables} → Fitted A room before one m → Fitted B room before other n → (m ≡ n) × (one ≡ other)
  same-tracker p q = fitted-once (same-fitted p) q

-- A SHEET REWRITTEN with a mark on every transition into a must-recur state
module _ (A : Automaton) (edition : A.edition ≡ StateBased) where
  pub rewritten-fitted : {room m : ℕ} {before after : TrackerTables} → Fitted (marked_into A) room before after m ↔ Fitted A room before after m
  rewritten-fitted = let s = rewritten-steps A edition in (same-fitted s, same-fitted (same_back s))

  pub rewritten-tracker : {room m n : ℕ} {before one other : TrackerTables} → Fitted (marked_into A) room before one m → Fitted A room before other n
      → (m ≡ n) × (one ≡ other)
  rewritten-tracker = same-tracker (rewritten-steps A edition)
