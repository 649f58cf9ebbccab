-- Sheets whose tuples take the same steps judge alike. Assumes nothing.
use Rattle.std.specs.Prelude.{ℕ, suc, ◌+◌, ◌*◌, ◌≡◌, ◌↔◌}
use Rattle.std.proofs.Common.{subst}
use Rattle.automaton.specs.Automaton.{Automaton}
use Rattle.automaton.specs.Rewritten.{marked_into}
use Rattle.automaton.proofs.RewrittenLaws.{rewritten-passes}
use Rattle.automaton.specs.declared.Edition.TheVariants.{StateBased}
use Rattle.tuple.specs.Step.{Tuple, run}
use Rattle.tuple.specs.SameSteps.{SameSteps, same_back, same-run}
use Rattle.tuple.specs.RewrittenStep.{rewritten-steps}
use Rattle.passes.specs.declared.Answer.{Answer}
use Rattle.passes.specs.declared.Answer.TheVariants.{Yes, No}
use Rattle.passes.specs.declared.Verdict.{Verdict}
use Rattle.passes.specs.Passes.{FirstRepeat, LeastOf, Judges, Sound}

pub same-judges : {A B : Automaton} → SameSteps A B → (w : ℕ → ℕ) (m c : ℕ) (z : Verdict) → Judges A w m c z → Judges B w m c z
same-judges {A} {B} same w m c z j =
    let runs : run A w ≡ run B w = λ i t. same-run same w t i in
    record {
      earlier = j.earlier;
      repeat = subst (λ (f : ℕ → Tuple). FirstRepeat (λ (i : ℕ). f (m + i * c)) j.earlier z.passes) runs j.repeat;
      least = subst (λ (f : ℕ → Tuple). LeastOf (λ (t : ℕ). (f (suc t)).colour) (m + j.earlier * c) (m + z.passes * c) z.least) runs j.least;
      answer = j.answer;
    }

-- A SHEET REWRITTEN with a mark on every transition into a must-recur state
module _ (A : Automaton) (edition : A.edition ≡ StateBased) where
  pub rewritten-judges : (w : ℕ → ℕ) (m c : ℕ) (z : Verdict) → Judges (marked_into A) w m c z ↔ Judges A w m c z
  rewritten-judges w m c z = let s = rewritten-steps A edition in (same-judges s w m c z, same-judges (same_back s) w m c z)

  pub rewritten-sound : (w : ℕ → ℕ) (z : Answer) → Sound (marked_into A) w z ↔ Sound A w z
  rewritten-sound w Yes = rewritten-passes A edition w
  rewritten-sound w No = let (to, from) = rewritten-passes A edition w in (λ f h. f (from h), λ f h. f (to h))
