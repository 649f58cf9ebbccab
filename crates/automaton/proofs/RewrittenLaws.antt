-- A sheet rewritten with marks: it fits, has the same graph, and passes the same endless words. Assumes nothing.
use Rattle.std.specs.Prelude.{ℕ, suc, ◌+◌, ◌*◌, ◌≡◌, refl, List, map, ◌↔◌, length, get_or}
use Rattle.std.proofs.Common.{sym, ap, subst, ◌∙◌}
use Rattle.std.proofs.lemmas.List.{length-map}
use Rattle.std.proofs.Math.ListN.{get_or-map}
use Rattle.sets.specs.Sets.{Member, inter_of}
use Rattle.sets.specs.SetLaws.{inter-in, inter-of, zero-inter}
use Rattle.automaton.specs.Automaton.{Automaton, graph_of, Fits}
use Rattle.automaton.specs.Endless.{MeetingFree}
use Rattle.automaton.specs.Graph.{successor_set}
use Rattle.automaton.specs.Reading.{Reading, MarkedEdge, RecurrentBy, Recurrent, Recurs, Passes}
use Rattle.automaton.proofs.RecurrenceLaws.{recurs-takes}
use Rattle.automaton.specs.Rewritten.{marked_into}
use Rattle.automaton.specs.declared.Edition.{Edition}
use Rattle.automaton.specs.declared.Edition.TheVariants.{StateBased}

-- the members that the sets of a table have in R, cell by cell; a cell past its end has none
pub cell-into : (R : ℕ) (table : List ℕ) (i : ℕ) → get_or (map (λ x. inter_of x R) table) i 0 ≡ inter_of (get_or table i 0) R
cell-into R table i =
    let f : ℕ → ℕ = λ x. inter_of x R in
    ap (get_or (map f table) i) (sym (zero-inter R)) ∙ get_or-map f table i 0

module _ (A : Automaton) where
  pub rewritten-mark : (i : ℕ) → get_or (marked_into A).marks i 0 ≡ inter_of (get_or A.table i 0) A.recurring
  rewritten-mark i = cell-into A.recurring A.table i

  pub rewritten-length : length (marked_into A).marks ≡ length A.table
  rewritten-length = length-map A.table (λ (x : ℕ). inter_of x A.recurring)

  pub marked-in : (i r : ℕ) → Member (get_or (marked_into A).marks i 0) r ↔ (Member (get_or A.table i 0) r × Member A.recurring r)
  marked-in i r = (
    λ h. inter-in (get_or A.table i 0) A.recurring r (subst (λ (x : ℕ). Member x r) (rewritten-mark i) h),
    λ (a, b). subst (λ (x : ℕ). Member x r) (sym (rewritten-mark i)) (inter-of (get_or A.table i 0) A.recurring r a b),
  )

  pub marked-edge : (l q r : ℕ) → MarkedEdge (marked_into A) l q r ↔ (Member (successor_set A.table q l) r × Member A.recurring r)
  marked-edge l q r = marked-in (8 * q + l) r

  pub rewritten-graph : graph_of (marked_into A) ≡ graph_of A
  rewritten-graph = refl

  pub rewritten-free : MeetingFree (graph_of (marked_into A)) ↔ MeetingFree (graph_of A)
  rewritten-free = (λ f. f, λ f. f)

  pub rewritten-fits : Fits A → Fits (marked_into A)
  rewritten-fits f = record { range = f.range; states = (f.states.0, refl); cells = f.cells; marks = λ i r h. ((marked-in i r).0 h).0 }

  -- the same transitions are recurrent, so the same words are passed
  module _ (edition : A.edition ≡ StateBased) where
    pub rewritten-recurrent : (l q r : ℕ) → Recurrent (marked_into A) l q r ↔ Recurrent A l q r
    rewritten-recurrent l q r = (
      λ h. record { edge = h.edge; rule = subst (λ (e : Edition). RecurrentBy e A l q r) (sym edition) ((marked-edge l q r).0 h.rule).1 },
      λ h. record { edge = h.edge; rule = (marked-edge l q r).1 (h.edge.to, subst (λ (e : Edition). RecurrentBy e A l q r) edition h.rule) },
    )

    pub rewritten-recurs : (w x : ℕ → ℕ) → Reading (graph_of A) w x → Recurs (marked_into A) w x ↔ Recurs A w x
    rewritten-recurs w x reading =
        let marks = recurs-takes (marked_into A) w x reading in
        let states = recurs-takes A w x reading in (
          λ h. states.1 (λ t. let (u, l, m) = marks.0 h t in (u, l, (rewritten-recurrent (w u) (x u) (x (suc u))).0 m)),
          λ h. marks.1 (λ t. let (u, l, m) = states.0 h t in (u, l, (rewritten-recurrent (w u) (x u) (x (suc u))).1 m)),
        )

    pub rewritten-passes : (w : ℕ → ℕ) → Passes (marked_into A) w ↔ Passes A w
    rewritten-passes w = (
      λ (x, reading, h). (x, reading, (rewritten-recurs w x reading).0 h),
      λ (x, reading, h). (x, reading, (rewritten-recurs w x reading).1 h),
    )
