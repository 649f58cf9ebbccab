-- The recurrence rule: for each edition, what a reading has without end in the documents' words is to take recurrent transitions without end. Assumes nothing.
use Rattle.std.specs.Prelude.{ℕ, zero, suc, ◌<◌, ◌↔◌}
use mathlib.Core.Logic.Dec
use Rattle.std.proofs.Common.{arith}
use Rattle.sets.specs.Sets.{Member}
use Rattle.sets.specs.SetLaws.{member-dec}
use Rattle.automaton.specs.Automaton.{Automaton, graph_of}
use Rattle.automaton.specs.EdgeLaws.{edge-dec}
use Rattle.automaton.specs.Graph.{successor_set}
use Rattle.automaton.specs.Reading.{Reading, RecursBy, Recurs, RecurrentBy, Recurrent, TakesRecurrent}
use Rattle.automaton.specs.declared.Edition.{Edition}
use Rattle.automaton.specs.declared.Edition.TheVariants.{StateBased, TransitionBased}

module _ (A : Automaton) (w x : ℕ → ℕ) where
  abbrev Taken : Edition → Type 0
  Taken e = (t : ℕ) → (u : ℕ) × (t < u) × RecurrentBy e A (w u) (x u) (x (suc u))

  -- a must-recur state at u + 1 is the target of the transition from u
  taken-by : (e : Edition) → RecursBy e A w x → Taken e
  taken-by StateBased recurs t = let (u, l, m) = recurs (suc t) in at u l m
    where
      at : (u : ℕ) → suc t < u → Member A.recurring (x u) → (u : ℕ) × (t < u) × Member A.recurring (x (suc u))
      at zero l m = absurd (omega arith)
      at (suc u) l m = (u, omega arith, m)
  taken-by TransitionBased recurs t = recurs t

  recurs-by : (e : Edition) → Taken e → RecursBy e A w x
  recurs-by StateBased taken = λ t. let (u, l, m) = taken t in (suc u, omega arith, m)
  recurs-by TransitionBased taken = taken

  pub recurs-takes : Reading (graph_of A) w x → Recurs A w x ↔ TakesRecurrent A w x
  recurs-takes reading = (
    λ recurs t. let (u, l, m) = taken-by A.edition recurs t in (u, l, record { edge = reading.goes u; rule = m }),
    λ takes. recurs-by A.edition (λ t. let (u, l, m) = takes t in (u, l, m.rule)),
  )

rule-dec : (e : Edition) (A : Automaton) (l q r : ℕ) → Dec (RecurrentBy e A l q r)
rule-dec StateBased A l q r = member-dec A.recurring r
rule-dec TransitionBased A l q r = member-dec (successor_set A.marks q l) r

pub recurrent-dec : (A : Automaton) (l q r : ℕ) → Dec (Recurrent A l q r)
recurrent-dec A l q r =
    Dec.of_iff
    (λ (a, b). record { edge = a; rule = b }, λ e. (e.edge, e.rule))
    (Dec.and (edge-dec (graph_of A) l q r) (rule-dec A.edition A l q r))
