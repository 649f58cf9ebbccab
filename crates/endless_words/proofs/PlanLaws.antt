-- On a plan's endless word the least colour that the tracker enters without end is the one that the verdict tells. Assumes nothing: the premise is not used.
use Rattle.std.specs.Prelude.{ℕ, suc, ◌+◌, ◌*◌, ◌<◌, ◌≡◌, List, length, get_or, Ok}
use Rattle.std.proofs.Common.{sym, ◌∙◌, subst, arith}
use Rattle.std.proofs.Math.Path.{ap}
use Rattle.theory.specs.Run.{Least}
use Rattle.tuple_record.specs.Record.{colour_in}
use Rattle.automaton.specs.Automaton.{Automaton}
use Rattle.endless_words.proofs.WithoutEndLaws.{eventually-least}
use Rattle.tuple.specs.Step.{next, run, colour_entered}
use Rattle.filling.specs.TrackerTables.{TrackerTables}
use Rattle.format.specs.Format.{Sheet}
use Rattle.format.specs.Numbers.{numbers}
use Rattle.format.proofs.NumbersLaws.{sheet-fits}
use Rattle.reading.specs.Read.{Accepted}
use Rattle.passes.specs.Letter.{letter_at}
use Rattle.passes.specs.Passes.{Judges}
use Rattle.passes.specs.TableRun.{reached, TableJudges}
use Rattle.passes.specs.TableRunLaws.{reached-more}
use Rattle.passes.proofs.FollowLaws.{entered-colour}
use Rattle.passes.specs.StretchLaws.{stretch-least}
use Rattle.passes.specs.declared.Verdict.{Verdict}
use Rattle.plan.specs.Plan.{PlanIs}
use Rattle.plan_verdict.specs.PlanLaws.{letters-below}
use Rattle.plan_verdict.specs.Verdict.{Judgement}
use Rattle.tracker.specs.Build.{BuildTables}
use Rattle.endless_words.specs.EndlessWord.{colours_on, LeastWithoutEnd}

module _ (lead cycle : List ℕ) (some : 0 < length cycle) (z : Verdict) where
  abbrev word : ℕ → ℕ
  word = letter_at lead cycle

  -- of the verdict by numbers, on any tables: whoever made the tracker
  pub table-colour : (tables : TrackerTables) (count : ℕ) → TableJudges tables.tuples tables.nexts count word (length lead) (length cycle) z
      → LeastWithoutEnd (colours_on tables word) z.least
  table-colour tables count h =
      eventually-least (stretch-least lead cycle some number (colours_on tables word) step h.earlier z.passes z.least h.repeat h.least)
    where
      number : ℕ → ℕ
      number t = reached tables.nexts 0 word t

      step : (s t : ℕ) → number s ≡ number t → word s ≡ word t → (number (suc s) ≡ number (suc t)) × (colours_on tables word s ≡ colours_on tables word t)
      step s t p q =
          let e : reached tables.nexts 0 word (suc s) ≡ reached tables.nexts 0 word (suc t) =
          sym (reached-more tables.nexts 0 word s) ∙ ((λ i. get_or tables.nexts (8 * p i + q i) 0) ∙ reached-more tables.nexts 0 word t) in
          (e, ap (colour_in tables.tuples) e)

  -- of the verdict by tuples
  tuple-colour : (A : Automaton) → Judges A word (length lead) (length cycle) z → Least (colour_entered A word) z.least
  unfolding run
  tuple-colour A h =
      stretch-least lead cycle some (run A word) (colour_entered A word)
      (λ s t p q. (let e : run A word (suc s) ≡ run A word (suc t) = λ i. next A (q i) (p i) in (e, ap (λ u. u.colour) e)))
      h.earlier z.passes z.least h.repeat h.least

-- ON THE VERDICT'S OWN CONTRACT: the plan of the file p on the sheet of the file s, whose tracker is in the tables
pub record VerdictColour (s p : List ℕ) (after : BuildTables) (z : Verdict) : Type 0 where
  pub sheet : Sheet
  pub accepted : Accepted s sheet
  pub lead : List ℕ
  pub cycle : List ℕ
  pub plan : PlanIs sheet p lead cycle
  pub least : LeastWithoutEnd (colours_on after.tracker (letter_at lead cycle)) z.least

pub verdict-colour : {s p : List ℕ} {room : ℕ} {before after : BuildTables} {z : Verdict} → Judgement s p room before after (Ok z) → VerdictColour s p after z
unfolding numbers
verdict-colour (Judgement.short a e b) = absurd (let o : ◌≡◌ {A = ℕ} 0 1 = cc in omega arith)
verdict-colour (Judgement.refused a r b e c d) = absurd (let o : ◌≡◌ {A = ℕ} 0 1 = cc in omega arith)
verdict-colour {s} {p} {room} {before} {after} {z} (Judgement.judged lent sizes σ accepted count fitted lead cycle y h e sets witness) =
    let same : y ≡ z = cc in
    let letters = letters-below σ accepted.file.right p lead cycle h.plan in
    let colours : colour_entered (numbers σ) (letter_at lead cycle) ≡ colours_on after.tracker (letter_at lead cycle) =
    λ i t. sym (entered-colour (sheet-fits s σ accepted.file) room count before.tracker after.tracker fitted (letter_at lead cycle) letters t) i in
    record {
      sheet = σ;
      accepted = accepted;
      lead = lead;
      cycle = cycle;
      plan = h.plan;
      least = subst (λ (col : ℕ → ℕ). LeastWithoutEnd col z.least) colours
          (eventually-least (tuple-colour lead cycle h.plan.range.cycle-some z (numbers σ) (subst (Judges (numbers σ) (letter_at lead cycle) (length lead) (length cycle)) same h.judged)));
    }
