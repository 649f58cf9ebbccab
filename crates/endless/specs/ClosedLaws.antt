-- From a set in which every state stays one can go on without end, and a state that begins an endless path is never taken away. Assumes nothing.
use Rattle.std.specs.Prelude.{ℕ, zero, suc, ◌+◌, ◌^◌, ◌≤◌, ◌<◌, ◌≡◌, ◌↔◌}
use Rattle.std.proofs.Math.Path.{refl}
use Rattle.std.proofs.Common.{subst, arith, below_more}
use Rattle.sets.specs.Sets.{Member, inter_of, minus_of}
use Rattle.sets.specs.SetLaws.{member-dec, no_member, some-member, inter-in, inter-of, minus-left, minus-not, minus-of, single-in, bit-single}
use Rattle.sets.specs.OrderLaws.{part-less}
use Rattle.automaton.specs.Graph.{Graph, GraphFits, successor_set}
use Rattle.automaton.specs.EdgeLaws.{edge_of}
use Rattle.automaton.specs.Endless.{EndlessFrom}
use Rattle.automaton.specs.EndlessLaws.{endless-step}
use Rattle.endless.specs.Closed.{EndlessStates, StepsInto, Stays, Narrowed}

-- A set in which every state stays

module _ (G : Graph) (set : ℕ) (stay : (q : ℕ) → Stays G set q) where
  -- the t-th state on a way through the set
  follow : (q : ℕ) → Member set q → ℕ → (r : ℕ) × Member set r
  follow q m zero = (q, m)
  follow q m (suc t) = let (r, h) = follow q m t in let s = stay r h in (s.state, s.inside)

  pub closed-endless : (q : ℕ) → Member set q → EndlessFrom G q
  unfolding follow
  closed-endless q m = (λ t. (follow q m t).0, refl, λ t. (let s = stay (follow q m t).0 (follow q m t).1 in (s.letter, s.edge)))

-- One state

module _ {G : Graph} (fits : GraphFits G) {set q : ℕ} where
  -- a transition on letter l into the set
  pub steps_on : (l : ℕ) → l < G.k → (inter_of (successor_set G.table q l) set ≡ 0 → ⊥) → StepsInto G set q
  steps_on l h f =
      let (r, m) = some-member (inter_of (successor_set G.table q l) set) f in
      let (a, b) = inter-in (successor_set G.table q l) set r m in
      let k = fits.range.3 in
      record { letter = l; state = r; edge = edge_of G fits l q r (omega arith) a; inside = b }

  pub steps-none : ((l : ℕ) → l < G.k → inter_of (successor_set G.table q l) set ≡ 0) → StepsInto G set q → ⊥
  steps-none none s =
      let r = s.state in
      no_member r (subst (λ (x : ℕ). Member x r) (none s.letter s.edge.letter) (inter-of (successor_set G.table q s.letter) set r s.edge.to s.inside))

-- The search

module _ {G : Graph} where
  pub narrowed-start : {set : ℕ} → ((q : ℕ) → Member set q ↔ (q < G.n)) → Narrowed G set 0
  narrowed-start below = record {
    states = λ r. (below r).0;
    endless = λ r e. (let (l, s, edge, h) = endless-step e in (below r).1 edge.from);
    stay = λ r l. absurd (omega arith);
  }

  pub narrowed-end : {set q : ℕ} → Narrowed G set q → G.n ≤ q → EndlessStates G set
  narrowed-end {set} {q} h l r =
      (closed-endless G set (λ s m. (let k = h.states s m in h.stay s (omega arith) m)) r, h.endless r)

  pub narrowed-more : {set q : ℕ} → Narrowed G set q → Stays G set q → Narrowed G set (q + 1)
  narrowed-more h s = record { states = h.states; endless = h.endless; stay = below_more _ _ h.stay s }

-- a state that does not stay is a member without a transition into the set
module _ {G : Graph} {set q : ℕ} (lost : Stays G set q → ⊥) where
  lost-member : Member set q
  lost-member = by (member-dec set q)
    where
      by : Dec (Member set q) → Member set q
      by (yes m) = m
      by (no m) = absurd (lost (λ h. absurd (m h)))

  pub narrowed-less : {r : ℕ} → Narrowed G set r → Narrowed G (minus_of set (2 ^ q)) 0
  narrowed-less h = record {
    states = λ r k. h.states r (minus-left set (2 ^ q) r k);
    endless = λ r e. minus-of set (2 ^ q) r (h.endless r e) (λ s. away (subst (EndlessFrom G) (single-in q r s) e));
    stay = λ r l. absurd (omega arith);
  }
    where
      away : EndlessFrom G q → ⊥
      away e =
          let (l, r, edge, k) = endless-step e in
          lost (λ m. record { letter = l; state = r; edge = edge; inside = h.endless r k })

  pub set-falls : minus_of set (2 ^ q) < set
  set-falls = part-less q (minus_of set (2 ^ q)) set (λ r. minus-left set (2 ^ q) r) lost-member (λ k. minus-not set (2 ^ q) q k (bit-single q))
