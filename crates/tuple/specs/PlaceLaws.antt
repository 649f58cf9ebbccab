-- The places before the marking pass: facts F1 and F2 of the theory. Assumes nothing.
use Rattle.std.specs.Prelude.{ℕ, suc, ◌+◌, ◌*◌, ◌≤◌, ◌<◌, ◌≡◌, ◌↔◌, length, get_or}
use Rattle.std.proofs.Common.{sym, subst, ◌∙◌, arith, length-append}
use Rattle.std.proofs.Math.Path.{ap}
use mathlib.Core.List.{List, [], ◌∷◌, map}
use Rattle.std.proofs.Math.Decide.{dec_lt}
use Rattle.std.proofs.lemmas.List.{length-map}
use Rattle.std.proofs.Math.ListN.{get_or-append, get_or-map}
use Rattle.std.proofs.Math.Seq.{get_or_at}
use Rattle.sets.specs.Sets.{Member}
use Rattle.sets.specs.SetLaws.{inter-in, inter-of}
use Rattle.automaton.specs.Automaton.{Automaton, graph_of, Fits}
use Rattle.automaton.specs.Graph.{Edge}
use Rattle.automaton.specs.Successors.{successors_of}
use Rattle.automaton.specs.EdgeLaws.{edge_of, edge-state}
use Rattle.automaton.specs.QuestionLaws.{fits-graph, marked-within}
use Rattle.automaton.specs.Reading.{RecurrentBy, Recurrent}
use Rattle.automaton.specs.SuccessorLaws.{successors-in, successors-of-member, successors-edge, successors-empty}
use Rattle.automaton.specs.declared.Edition.{Edition}
use Rattle.automaton.specs.declared.Edition.TheVariants.{StateBased, TransitionBased}
use Rattle.tuple.specs.Step.{place_set, recurrent_by, recurrent, places}
use Rattle.tuple.specs.PassLaws.{In, front}

pub places-length : (A : Automaton) (l : ℕ) (sets : List ℕ) → length (places A l sets) ≡ suc (length sets)
unfolding places
places-length A l sets =
    length-append (map (successors_of A.table l) sets) (recurrent A l (place_set sets 0) ∷ [])
    ∙ omega (arith, length-map sets (successors_of A.table l))

module _ {A : Automaton} (fits : Fits A) where
  module _ (l : ℕ) (letter : l < A.k) where
    edges-of : (x q r : ℕ) → Member x q → Edge (graph_of A) l q r → Member (successors_of A.table l x) r
    edges-of x q r h e = (successors-edge (graph_of A) (fits-graph fits) l x letter r).1 (q, h, e)

    edges-in : (x r : ℕ) → Member (successors_of A.table l x) r → (q : ℕ) × Member x q × Edge (graph_of A) l q r
    edges-in x r h = (successors-edge (graph_of A) (fits-graph fits) l x letter r).0 h

    pub recurrent-of : (x q r : ℕ) → Member x q → Recurrent A l q r → Member (recurrent A l x) r
    recurrent-of x q r h e = by A.edition e.rule
      where
        by : (d : Edition) → RecurrentBy d A l q r → Member (recurrent_by d A l x) r
        by StateBased m = inter-of (successors_of A.table l x) A.recurring r (edges-of x q r h e.edge) m
        by TransitionBased m =
            let a = e.edge.from in
            let b = fits.range.1 in
            successors-of-member A.marks l x q r (omega arith) h m

    pub recurrent-in : (x r : ℕ) → Member (recurrent A l x) r → (q : ℕ) × Member x q × Recurrent A l q r
    recurrent-in x r h = let (q, c, e, m) = by A.edition h in (q, c, record { edge = e; rule = m })
      where
        by : (d : Edition) → Member (recurrent_by d A l x) r → (q : ℕ) × Member x q × Edge (graph_of A) l q r × RecurrentBy d A l q r
        by StateBased h =
            let (a, b) = inter-in (successors_of A.table l x) A.recurring r h in
            let (q, c, e) = edges-in x r a in
            (q, c, e, b)
        by TransitionBased h =
            let (q, j, c, m) = successors-in A.marks l x r h in
            let b = fits.range.3 in
            (q, c, edge_of (graph_of A) (fits-graph fits) l q r (omega arith) (marked-within fits (8 * q + l) r m), m)

    -- the new set has the targets of the recurrent transitions from x, and no other state
    pub recurrent-is : (x r : ℕ) → Member (recurrent A l x) r ↔ ((q : ℕ) × Member x q × Recurrent A l q r)
    recurrent-is x r = (recurrent-in x r, λ (q, h, e). recurrent-of x q r h e)

    -- F1: the successors of each set
    places-below : (sets : List ℕ) (j : ℕ) → j < length sets → place_set (places A l sets) j ≡ successors_of A.table l (place_set sets j)
    unfolding places
    places-below sets j h =
        let f = successors_of A.table l in
        get_or-append (map f sets) (recurrent A l (place_set sets 0) ∷ []) 0 j (rw (length-map sets f) h)
        ∙ ap (get_or (map f sets) j) (sym (successors-empty A.table l))
        ∙ get_or-map f sets j 0

    pub places-old : (sets : List ℕ) (j q r : ℕ) → In sets j q → Edge (graph_of A) l q r → In (places A l sets) j r
    places-old sets j q r h e =
        subst (λ (x : ℕ). Member x r) (sym (places-below sets j (front sets j q h))) (edges-of (place_set sets j) q r h e)

    pub places-old⁻ : (sets : List ℕ) (j r : ℕ) → j < length sets → In (places A l sets) j r → (q : ℕ) × In sets j q × Edge (graph_of A) l q r
    places-old⁻ sets j r k h = edges-in (place_set sets j) r (subst (λ (x : ℕ). Member x r) (places-below sets j k) h)

    -- F2: the new set at place p
    places-at : (sets : List ℕ) → place_set (places A l sets) (length sets) ≡ recurrent A l (place_set sets 0)
    unfolding places
    places-at sets =
        let f = successors_of A.table l in
        get_or_at (map f sets) (recurrent A l (place_set sets 0)) [] 0 (length sets) (length-map sets f)

    pub places-new : (sets : List ℕ) (q r : ℕ) → In sets 0 q → Recurrent A l q r → In (places A l sets) (length sets) r
    places-new sets q r h e = subst (λ (x : ℕ). Member x r) (sym (places-at sets)) (recurrent-of (place_set sets 0) q r h e)

    pub places-new⁻ : (sets : List ℕ) (r : ℕ) → In (places A l sets) (length sets) r → (q : ℕ) × In sets 0 q × Recurrent A l q r
    places-new⁻ sets r h = recurrent-in (place_set sets 0) r (subst (λ (x : ℕ). Member x r) (places-at sets) h)

    pub places-none : (sets : List ℕ) (j r : ℕ) → In (places A l sets) j r → j ≤ length sets
    places-none sets j r h = omega (arith, front (places A l sets) j r h, places-length A l sets)

    -- each state in a place is the target of a transition
    pub places-state : (sets : List ℕ) (j r : ℕ) → In (places A l sets) j r → r < A.n
    places-state sets j r h = by (dec_lt j (length sets))
      where
        by : Dec (j < length sets) → r < A.n
        by (yes k) = let (q, a, e) = places-old⁻ sets j r k h in edge-state (graph_of A) (fits-graph fits) l q r e
        by (no k) =
            let c = places-none sets j r h in
            let d : j ≡ length sets = omega arith in
            let (q, a, e) = places-new⁻ sets r (subst (λ (z : ℕ). In (places A l sets) z r) d h) in
            edge-state (graph_of A) (fits-graph fits) l q r e.edge
