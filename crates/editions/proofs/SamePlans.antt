-- A SHEET rewritten with a mark on every transition into a must-recur state (R-9) passes the same plans, and each plan has the same verdict. For every accepted
-- SHEET. Assumes nothing.
use Rattle.std.specs.Prelude.{ℕ, ◌≡◌, refl, ◌↔◌, List, length, Result}
use Rattle.std.proofs.Common.{sym, subst}
use Rattle.gate.specs.declared.Refusal.{Refusal}
use Rattle.automaton.specs.Automaton.{Automaton}
use Rattle.automaton.specs.Reading.{Passes}
use Rattle.automaton.proofs.RewrittenLaws.{rewritten-passes}
use Rattle.automaton.specs.declared.Edition.TheVariants.{StateBased}
use Rattle.lent.specs.Lent.{lent_sets}
use Rattle.numbering.specs.Numbering.{MoreThan}
use Rattle.filling.specs.TrackerTables.{Fitted}
use Rattle.tracker.specs.Build.{BuildTables, build_tables}
use Rattle.format.specs.Format.{Sheet}
use Rattle.format.specs.StandsFor.{SameLetters}
use Rattle.format.specs.Numbers.{numbers}
use Rattle.parser.proofs.UniqueLaws.{file-unique}
use Rattle.passes.specs.Letter.{letter_at}
use Rattle.passes.specs.Passes.{Judges, Sound}
use Rattle.passes.proofs.SameVerdict.{rewritten-judges, rewritten-sound}
use Rattle.passes.proofs.UniqueLaws.{one-verdict}
use Rattle.passes.specs.declared.Verdict.{Verdict}
use Rattle.plan.specs.Plan.{PlanFaulty}
use Rattle.plan.specs.CompleteLaws.{plan-unique}
use Rattle.plan.specs.SameLettersLaws.{plan-alike, plan-fault-alike}
use Rattle.plan_verdict.specs.Verdict.{SizesFit, Verdicts, Refusing, Judgement}
use Rattle.reading.specs.Read.{Accepted}
use Rattle.reading.proofs.ReadLaws.{accepted-unrefused}
use Rattle.editions.specs.Rewritten.{rewritten, rewritten_file}
use Rattle.editions.proofs.NumbersLaws.{numbers-rewritten}
use Rattle.editions.proofs.FileLaws.{accepted-rewritten}
use Rattle.editions.proofs.SameListing.{numbers-edition, carried, over-rewritten, fitted-rewritten}

-- names and withdrawals are as they were
letters-rewritten : (σ : Sheet) → SameLetters σ (rewritten σ)
unfolding rewritten
letters-rewritten σ = record { count = refl; names = refl; withdrawals = refl }

module _ (σ : Sheet) (edition : σ.edition ≡ StateBased) where
  -- THE SAME PLANS are passed, as are the same endless words
  pub words-rewritten : (w : ℕ → ℕ) → Passes (numbers (rewritten σ)) w ↔ Passes (numbers σ) w
  words-rewritten w = subst (λ (A : Automaton). Passes A w ↔ Passes (numbers σ) w) (sym (numbers-rewritten σ)) (rewritten-passes (numbers σ) (numbers-edition σ edition) w)

  -- a verdict on a plan is one on the sheet rewritten, with its least colour and its passes
  pub verdict-rewritten : {p lead cycle : List ℕ} {count : ℕ} {z : Verdict} → Verdicts σ p lead cycle count z → Verdicts (rewritten σ) p lead cycle count z
  verdict-rewritten {p} {lead} {cycle} {count} {z} v =
      let w = letter_at lead cycle in
      let plain = numbers-edition σ edition in
      record {
        plan = plan-alike (letters-rewritten σ) v.plan;
        judged = carried σ edition (λ (A : Automaton). Judges A w (length lead) (length cycle) z) ((rewritten-judges (numbers σ) plain w (length lead) (length cycle) z).1 v.judged);
        passes = v.passes;
        sound = carried σ edition (λ (A : Automaton). Sound A w z.answer) ((rewritten-sound (numbers σ) plain w z.answer).1 v.sound);
      }

  module _ {s : List ℕ} (accepted : Accepted s σ) where
    -- so whatever the verdicts on the two are, they are the same: answer, least colour and passes
    pub verdict-same : {p lead cycle lead' cycle' : List ℕ} {count count' : ℕ} {z y : Verdict} → Verdicts σ p lead cycle count z
        → Verdicts (rewritten σ) p lead' cycle' count' y → z ≡ y
    verdict-same {p} {lead} {cycle} {lead'} {cycle'} {z = z} {y} v u =
        let there = verdict-rewritten v in
        let file = (accepted-rewritten σ accepted).file in
        let (a, b) = plan-unique (rewritten σ) file.all-names file.right.range.3 file.right.withdrawals file.right.names p lead' cycle' lead cycle u.plan there.plan in
        let A = numbers (rewritten σ) in
        let judged = subst (λ (m : List ℕ). Judges A (letter_at m cycle) (length m) (length cycle) y) a
        (subst (λ (c : List ℕ). Judges A (letter_at lead' c) (length lead') (length c) y) b u.judged) in
        one-verdict A (letter_at lead cycle) (length lead) (length cycle) z y there.judged judged

    -- THE SAME ANSWER, in the verdict's own contract: what it allows on the file, with any plan, room and tables, it allows on the file rewritten, with the same
    -- tracker and the same witness. The sets of successors and of marks are the sheet's own.
    pub record AnsweredAlike (p : List ℕ) (room : ℕ) (before after : BuildTables) (o : Result Verdict Refusal) : Type 0 where
      pub tables : BuildTables
      pub judgement : Judgement (rewritten_file σ) p room before tables o
      pub tracker : tables.tracker ≡ after.tracker
      pub witness : tables.witness ≡ after.witness

    module _ (p : List ℕ) where
      sizes-rewritten : SizesFit s p → SizesFit (rewritten_file σ) p
      sizes-rewritten h = record { sheet = (accepted-rewritten σ accepted).file.size; plan = h.plan }

      sizes-back : SizesFit (rewritten_file σ) p → SizesFit s p
      sizes-back h = record { sheet = accepted.file.size; plan = h.plan }

      same-sheet : {τ : Sheet} → Accepted s τ → τ ≡ σ
      same-sheet {τ} h = file-unique s τ σ h.file accepted.file

      refusing-rewritten : {room : ℕ} {before after : BuildTables} {r : Refusal} → Refusing s p room before after r → Refusing (rewritten_file σ) p room before after r
      refusing-rewritten (Refusing.by_size n e w) = Refusing.by_size (λ h. n (sizes-back h)) e w
      refusing-rewritten (Refusing.by-sheet h f) = absurd (accepted-unrefused accepted f)
      refusing-rewritten {room} (Refusing.by-room h τ a over e w) =
          let here = subst (λ (υ : Sheet). MoreThan (numbers υ) room) (same-sheet a) over in
          Refusing.by-room (sizes-rewritten h) (rewritten σ) (accepted-rewritten σ accepted) (over-rewritten σ edition here) e w
      refusing-rewritten {room} {before} (Refusing.by-plan h τ a built count fitted number line f e w) =
          let here = subst (λ (υ : Sheet). Fitted (numbers υ) room before.tracker built count) (same-sheet a) fitted in
          let fault = subst (λ (υ : Sheet). PlanFaulty υ p number line) (same-sheet a) f in
          Refusing.by-plan (sizes-rewritten h) (rewritten σ) (accepted-rewritten σ accepted) built count (fitted-rewritten σ edition here) number line
          (plan-fault-alike (letters-rewritten σ) fault) e w

      pub judged-rewritten : {room : ℕ} {before after : BuildTables} {o : Result Verdict Refusal} → Judgement s p room before after o → AnsweredAlike p room before after o
      judged-rewritten {after = after} (Judgement.short n e same) = record { tables = after; judgement = Judgement.short n e same; tracker = refl; witness = refl }
      judged-rewritten {after = after} (Judgement.refused l r why e sets tracker) =
          record { tables = after; judgement = Judgement.refused l r (refusing-rewritten why) e sets tracker; tracker = refl; witness = refl }
      judged-rewritten {room} {before} {after} (Judgement.judged l h τ a count fitted lead cycle z v e sets witness) =
          let here = subst (λ (υ : Sheet). Fitted (numbers υ) room before.tracker after.tracker count) (same-sheet a) fitted in
          let verdicts = subst (λ (υ : Sheet). Verdicts υ p lead cycle count z) (same-sheet a) v in
          record {
            tables = build_tables (lent_sets (numbers (rewritten σ)) before.sets) after.witness after.tracker;
            judgement =
                Judgement.judged l (sizes-rewritten h) (rewritten σ) (accepted-rewritten σ accepted) count (fitted-rewritten σ edition here) lead cycle z
                (verdict-rewritten verdicts) e refl witness;
            tracker = refl;
            witness = refl;
          }
