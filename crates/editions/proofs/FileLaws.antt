-- A sheet file of the first edition that is accepted, rewritten, is an accepted file of the second: its lines answer yes, and it is not too long. Assumes nothing.
use Rattle.std.specs.Prelude.{ℕ, ◌+◌, ◌≡◌, refl, List, [], ◌∷◌, map, length}
use Rattle.std.proofs.Common.{sym, subst, ◌∙◌, arith}
use Rattle.std.proofs.lemmas.List.{length-map}
use Rattle.sets.specs.SetLaws.{bit-lt}
use Rattle.automaton.specs.Automaton.{Automaton, graph_of}
use Rattle.automaton.specs.Endless.{MeetingFree}
use Rattle.automaton.specs.declared.Edition.{Edition}
use Rattle.automaton.specs.declared.Edition.TheVariants.{TransitionBased}
use Rattle.format.specs.Format.{State, Transition, Withdrawal, Sheet, StatesRight, transition_index, TransitionsRight, AllInForce, Right, FileIs}
use Rattle.format.specs.Numbers.{numbers}
use Rattle.sheet_sections.specs.SizeLaws.{right-size}
use Rattle.reading.specs.Read.{Accepted}
use Rattle.editions.specs.Rewritten.{marking, unflagging, rewritten, rewritten_file}
use Rattle.editions.proofs.NumbersLaws.{numbers-rewritten}

-- EACH LINE answers yes

states-rewritten : (e : Edition) (zs : List State) → StatesRight e zs → StatesRight TransitionBased (map unflagging zs)
states-rewritten e [] h = tt
states-rewritten e (z ∷ zs) h = ((h.0.0, omega arith), states-rewritten e zs h.1)

transitions-rewritten : (R : ℕ) (e : Edition) (n k least : ℕ) (ts : List Transition) → TransitionsRight e n k least ts → TransitionsRight TransitionBased n k least (map (marking R) ts)
transitions-rewritten R e n k least [] h = tt
transitions-rewritten R e n k least (t ∷ ts) h = (
  record { from = h.0.from; letter = h.0.letter; to = h.0.to; order = h.0.order; mark = omega (arith, bit-lt R t.to) },
  transitions-rewritten R e n k (transition_index t + 1) ts h.1,
)

in-force-rewritten : (R : ℕ) (ws : List Withdrawal) (ts : List Transition) → AllInForce ws ts → AllInForce ws (map (marking R) ts)
in-force-rewritten R ws [] h = tt
in-force-rewritten R ws (t ∷ ts) h = (h.0, in-force-rewritten R ws ts h.1)

right-rewritten : (σ : Sheet) → Right σ → Right (rewritten σ)
unfolding rewritten
right-rewritten σ h = record {
  range = h.range;
  names = h.names;
  withdrawals = h.withdrawals;
  states = states-rewritten σ.edition σ.states h.states;
  transitions = transitions-rewritten (numbers σ).recurring σ.edition σ.n σ.k 0 σ.transitions h.transitions;
  in-force = in-force-rewritten (numbers σ).recurring σ.withdrawals σ.transitions h.in-force;
}

module _ {s : List ℕ} (σ : Sheet) (file : FileIs s σ) where
  all-rewritten : length (map unflagging σ.states) ≡ σ.n
  all-rewritten = length-map σ.states unflagging ∙ file.all-states

  -- THE FILE REWRITTEN is a sheet file
  pub file-rewritten : FileIs (rewritten_file σ) (rewritten σ)
  unfolding rewritten rewritten_file
  file-rewritten = record {
    size = right-size (rewritten σ) (right-rewritten σ file.right) file.all-names all-rewritten;
    right = right-rewritten σ file.right;
    all-names = file.all-names;
    all-states = all-rewritten;
    text = refl;
  }

-- and accepted where the first is: its graph is the same
pub accepted-rewritten : {s : List ℕ} (σ : Sheet) → Accepted s σ → Accepted (rewritten_file σ) (rewritten σ)
accepted-rewritten σ h = record {
  file = file-rewritten σ h.file;
  free = subst (λ (A : Automaton). MeetingFree (graph_of A)) (sym (numbers-rewritten σ)) h.free;
}
