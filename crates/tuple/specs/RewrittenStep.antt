-- A sheet rewritten with a mark on every transition into a must-recur state takes the same steps. Assumes nothing.
use Rattle.std.specs.Prelude.{ℕ, ◌≡◌, length}
use Rattle.std.proofs.Math.Path.{refl, ap}
use Rattle.std.proofs.Common.{sym, ◌∙◌}
use mathlib.Core.List.{List, [], ◌∷◌, ◌++◌, map}
use Rattle.sets.specs.Sets.{Member, inter_of}
use Rattle.sets.specs.SetLaws.{inter-in, inter-of, ext-member}
use Rattle.automaton.specs.Automaton.{Automaton}
use Rattle.automaton.specs.Rewritten.{marked_into}
use Rattle.automaton.proofs.RewrittenLaws.{marked-edge}
use Rattle.automaton.specs.Successors.{successors_of}
use Rattle.automaton.specs.SuccessorLaws.{successors-in, successors-of-member}
use Rattle.automaton.specs.declared.Edition.{Edition}
use Rattle.automaton.specs.declared.Edition.TheVariants.{StateBased}
use Rattle.tuple.specs.Step.{Tuple, place_set, recurrent_by, recurrent, places, pass, close_up, colour_of, first, next, run}
use Rattle.tuple.specs.SameSteps.{SameSteps, same-run}

module _ (A : Automaton) where
  -- the states reached over a mark are the must-recur states reached
  marked-successors : (l x : ℕ) → successors_of (marked_into A).marks l x ≡ inter_of (successors_of A.table l x) A.recurring
  marked-successors l x = ext-member (successors_of (marked_into A).marks l x) (inter_of (successors_of A.table l x) A.recurring) to from
    where
      to : (r : ℕ) → Member (successors_of (marked_into A).marks l x) r → Member (inter_of (successors_of A.table l x) A.recurring) r
      to r h =
          let (q, j, u, m) = successors-in (marked_into A).marks l x r h in
          let (a, b) = (marked-edge A l q r).0 m in
          inter-of (successors_of A.table l x) A.recurring r (successors-of-member A.table l x q r j u a) b

      from : (r : ℕ) → Member (inter_of (successors_of A.table l x) A.recurring) r → Member (successors_of (marked_into A).marks l x) r
      from r h =
          let (s, b) = inter-in (successors_of A.table l x) A.recurring r h in
          let (q, j, u, a) = successors-in A.table l x r s in
          successors-of-member (marked_into A).marks l x q r j u ((marked-edge A l q r).1 (a, b))

  module _ (edition : A.edition ≡ StateBased) where
    pub rewritten-new-set : (l x : ℕ) → recurrent (marked_into A) l x ≡ recurrent A l x
    rewritten-new-set l x = marked-successors l x ∙ ap (λ (e : Edition). recurrent_by e A l x) (sym edition)

    rewritten-places : (l : ℕ) (sets : List ℕ) → places (marked_into A) l sets ≡ places A l sets
    unfolding places
    rewritten-places l sets = ap (λ (x : ℕ). map (successors_of A.table l) sets ++ (x ∷ [])) (rewritten-new-set l (place_set sets 0))

    pub rewritten-next : (l : ℕ) (u : Tuple) → next (marked_into A) l u ≡ next A l u
    unfolding next
    rewritten-next l u =
        ap (λ (p : List ℕ). record { sets = close_up (pass p); colour = colour_of A.n (length u.sets) (pass p) }) (rewritten-places l u.sets)

    pub rewritten-first : first (marked_into A) ≡ first A
    unfolding first
    rewritten-first = refl

    pub rewritten-steps : SameSteps (marked_into A) A
    rewritten-steps = record { states = refl; letters = refl; begins = rewritten-first; goes = rewritten-next }

    pub rewritten-run : (w : ℕ → ℕ) (t : ℕ) → run (marked_into A) w t ≡ run A w t
    rewritten-run = same-run rewritten-steps
