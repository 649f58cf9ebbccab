-- Two sheets whose tuples take the same steps. Numbering, listing and verdict go by these steps alone.
use Rattle.std.specs.Prelude.{ℕ, zero, suc, ◌≡◌}
use Rattle.std.proofs.Common.{sym, ap, ◌∙◌}
use Rattle.automaton.specs.Automaton.{Automaton}
use Rattle.tuple.specs.Step.{Tuple, first, next, run}

pub record SameSteps (A B : Automaton) : Type 0 where
  pub states : A.n ≡ B.n
  pub letters : A.k ≡ B.k
  pub begins : first A ≡ first B
  pub goes : (l : ℕ) (u : Tuple) → next A l u ≡ next B l u

pub same_back : {A B : Automaton} → SameSteps A B → SameSteps B A
same_back s = record { states = sym s.states; letters = sym s.letters; begins = sym s.begins; goes = λ l u. sym (s.goes l u) }

pub same-run : {A B : Automaton} → SameSteps A B → (w : ℕ → ℕ) (t : ℕ) → run A w t ≡ run B w t
unfolding run
same-run s w zero = s.begins
same-run {A} {B} s w (suc t) = ap (next A (w t)) (same-run s w t) ∙ s.goes (w t) (run B w t)
