-- The last letter of a meeting and the states before and after it, in tables that are all zero. Assumes nothing.
use Rattle.std.specs.Prelude.{ℕ, suc, ◌+◌, ◌<◌, ◌≡◌, List, length, get_or, set}
use Rattle.std.proofs.Common.{sym, ap, subst, ◌∙◌, add-one, arith, length-set, get_or-set_same, get_or-set_other}
use Rattle.gate.specs.Gate.{Zero}
use Rattle.gate.specs.GateLaws.{zero-cleared}
use Rattle.sets.specs.Sets.{Member}
use Rattle.automaton.specs.Graph.{Graph, Edge, successor_set}
use Rattle.lent.specs.Lent.{WitnessTables}
use Rattle.queue.specs.Queue.{pair, depth, one, other}
use Rattle.automaton.specs.EdgeLaws.{edge_of}
use Rattle.meeting.specs.Answer.{Asked}
use Rattle.meeting.specs.Trace.{noted, ended, Tail, Traced}

module _ (v : List ℕ) (d p z : ℕ) (h : d + 1 < length v) where
  at_last : get_or (set (set v d p) (d + 1) z) d 0 ≡ p
  at_last = get_or-set_other (set v d p) (d + 1) d z 0 (λ e. omega arith) ∙ get_or-set_same v d p 0 (omega arith)

  at-end : get_or (set (set v d p) (d + 1) z) (suc d) 0 ≡ z
  at-end = ap (λ (s : ℕ). get_or (set (set v d p) (d + 1) z) s 0) (sym (add-one d)) ∙ get_or-set_same (set v d p) (d + 1) z 0 (rw length-set h)

  behind-end : Zero v → (i : ℕ) → suc d < i → get_or (set (set v d p) (d + 1) z) i 0 ≡ 0
  behind-end zero-v i l = get_or-set_other (set v d p) (d + 1) i z 0 (λ e. omega arith) ∙ get_or-set_other v d i p 0 (λ e. omega arith) ∙ zero-v i

tail-start : (G : Graph) (d : ℕ) (word states : List ℕ) (l p z : ℕ) → d < length word → d + 1 < length states → Edge G l p z → Zero word → Zero states
    → Tail G d d (set word d l) (set (set states d p) (d + 1) z)
tail-start G d word states l p z hw hs e nw ns = record {
  goes = λ s x y. (let v : s ≡ d = omega arith in rw (v, get_or-set_same word d l 0 hw, at_last states d p z hs, at-end states d p z hs) e);
  behind = behind-end states d p z hs ns;
  behind-word = λ i x. get_or-set_other word d i l 0 (λ v. omega arith) ∙ nw i;
}

pub trace-start : (G : Graph) (counts : ℕ) (T : List ℕ) (head e l z : ℕ) (v : WitnessTables) → Asked G v → e ≡ pair T head → depth e < 136 → l < 8
    → (one e ≡ other e → ⊥) → Member (successor_set G.table (one e) l) z × Member (successor_set G.table (other e) l) z × Member counts z
    → Traced G counts T head (depth e) (depth e) head (ended (noted v (depth e) l e) (depth e) z)
trace-start G counts T head e l z v a he most hl f (m1, m2, c) =
    let d = depth e in
    let hw = a.long.word in
    let h1 = a.long.one in
    let h2 = a.long.other in
    let zw = subst (λ (x : WitnessTables). Zero x.word) (sym a.zeros) (zero-cleared v.word) in
    let z1 = subst (λ (x : WitnessTables). Zero x.one) (sym a.zeros) (zero-cleared v.one) in
    let z2 = subst (λ (x : WitnessTables). Zero x.other) (sym a.zeros) (zero-cleared v.other) in
    let l1 = at_last v.one d (one e) z (omega arith) in
    let l2 = at_last v.other d (other e) z (omega arith) in
    let e1 = at-end v.one d (one e) z (omega arith) in
    let e2 = at-end v.other d (other e) z (omega arith) in
    record {
      before = omega arith;
      deep = ap depth (sym he);
      low = omega arith;
      state-one = l1 ∙ ap one he;
      state-other = l2 ∙ ap other he;
      tail-one = tail-start G d v.word v.one l (one e) z (omega arith) (omega arith) (edge_of G a.fits l (one e) z hl m1) zw z1;
      tail-other = tail-start G d v.word v.other l (other e) z (omega arith) (omega arith) (edge_of G a.fits l (other e) z hl m2) zw z2;
      apart = λ x. f (sym l1 ∙ x ∙ l2);
      shared = e1 ∙ sym e2;
      counted = rw e1 c;
    }
