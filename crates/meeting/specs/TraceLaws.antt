-- Each pair of the queue says by which letter and from which pair it was reached: so the walks are found from their end. Assumes nothing.
use Rattle.std.specs.Prelude.{ℕ, suc, ◌/◌, ◌%◌, ◌≤◌, ◌<◌, ◌≡◌, List, length, get_or, set}
use Rattle.std.proofs.Common.{sym, ap, subst, ◌∙◌, inl, inr, arith, get_or-set_same, get_or-set_other}
use Rattle.std.proofs.Math.Decide.{ℕ_discrete}
use Rattle.automaton.specs.Graph.{Graph, Edge}
use Rattle.lent.specs.Lent.{WitnessTables}
use Rattle.queue.specs.Queue.{pair, origin, depth, one, other}
use Rattle.pair_search.specs.Search.{Justified, AllJustified, Next}
use Rattle.meeting.specs.Trace.{noted, Tail, Traced, Linked, Leads}

tail_step : (G : Graph) (d u : ℕ) (word states : List ℕ) (l p : ℕ) → u < d → u < length word → u < length states
    → Edge G l p (get_or states (suc u) 0) → Tail G d (suc u) word states → Tail G d u (set word u l) (set states u p)
tail_step G d u word states l p h hw hs e t = record {
  goes = λ s x y. by s x y (ℕ_discrete s u);
  behind = λ i x. get_or-set_other states u i p 0 (λ z. omega arith) ∙ t.behind i x;
  behind-word = λ i x. get_or-set_other word u i l 0 (λ z. omega arith) ∙ t.behind-word i x;
}
  where
    by : (s : ℕ) → u ≤ s → s ≤ d → Dec (s ≡ u) → Edge G (get_or (set word u l) s 0) (get_or (set states u p) s 0) (get_or (set states u p) (suc s) 0)
    by s x y (yes z) = rw (z, get_or-set_same word u l 0 hw, get_or-set_same states u p 0 hs, get_or-set_other states u (suc u) p 0 (λ v. omega arith)) e
    by s x y (no z) =
        rw (get_or-set_other word u s l 0 z, get_or-set_other states u s p 0 z, get_or-set_other states u (suc s) p 0 (λ v. omega arith)) (t.goes s (omega arith) y)

-- a pair at a depth above 0 comes from an earlier pair
comes-from : (G : Graph) (T : List ℕ) (i : ℕ) → 0 < depth (pair T i) → Justified G T i
    → Next G T i (depth (pair T i)) (one (pair T i)) (other (pair T i)) (origin T i)
comes-from G T i h (inl f) = absurd (let z = f.deep in omega arith)
comes-from G T i h (inr n) = n

module _ (G : Graph) (counts : ℕ) (T : List ℕ) (head d t i : ℕ) (v : WitnessTables) (justified : AllJustified G T (suc head)) (x : Traced G counts T head d t i v) where
  trace-next : 0 < t → Next G T i t (one (pair T i)) (other (pair T i)) (origin T i)
  trace-next h =
      let e = x.deep in
      let b = x.before in
      subst (λ (z : ℕ). Next G T i z (one (pair T i)) (other (pair T i)) (origin T i)) e (comes-from G T i (omega arith) (justified i (omega arith)))

  trace-step : (o e u : ℕ) → t ≡ suc u → o ≡ origin T i → e ≡ pair T (o / 8) → d < length v.word → d < length v.one → d < length v.other
      → Traced G counts T head d u (o / 8) (noted v u (o % 8) e)
  trace-step o e u z ho he hw h1 h2 =
      let b = x.before in
      let l = x.low in
      let n : Next G T i t (one (pair T i)) (other (pair T i)) o = rw ho (trace-next (omega arith)) in
      let k = n.earlier in
      let e1 : Edge G (o % 8) (one e) (get_or v.one (suc u) 0) = rw (he, ← z, x.state-one) n.left in
      let e2 : Edge G (o % 8) (other e) (get_or v.other (suc u) 0) = rw (he, ← z, x.state-other) n.right in
      let t1 : Tail G d (suc u) v.word v.one = rw (← z) x.tail-one in
      let t2 : Tail G d (suc u) v.word v.other = rw (← z) x.tail-other in
      let k1 : (s : ℕ) → u < s → get_or (set v.one u (one e)) s 0 ≡ get_or v.one s 0 = λ s p. get_or-set_other v.one u s (one e) 0 (λ q. omega arith) in
      let k2 : (s : ℕ) → u < s → get_or (set v.other u (other e)) s 0 ≡ get_or v.other s 0 = λ s p. get_or-set_other v.other u s (other e) 0 (λ q. omega arith) in
      record {
        before = omega arith;
        deep = (let g = n.deep in omega arith);
        low = omega arith;
        state-one = get_or-set_same v.one u (one e) 0 (omega arith) ∙ ap one he;
        state-other = get_or-set_same v.other u (other e) 0 (omega arith) ∙ ap other he;
        tail-one = tail_step G d u v.word v.one (o % 8) (one e) (omega arith) (omega arith) (omega arith) e1 t1;
        tail-other = tail_step G d u v.word v.other (o % 8) (other e) (omega arith) (omega arith) (omega arith) e2 t2;
        apart = λ a. x.apart (sym (k1 d (omega arith)) ∙ a ∙ k2 d (omega arith));
        shared = k1 (suc d) (omega arith) ∙ x.shared ∙ sym (k2 (suc d) (omega arith));
        counted = rw (k1 (suc d) (omega arith)) x.counted;
      }

pub linked : {G : Graph} {T : List ℕ} {head : ℕ} → AllJustified G T (suc head) → Linked T head
linked {G} {T} justified i l h = let n = comes-from G T i h (justified i (omega arith)) in (n.earlier, n.deep)

pub leads-step : {T : List ℕ} {head d t i : ℕ} {v w w' : WitnessTables} (o e u : ℕ) → t ≡ suc u → o ≡ origin T i → e ≡ pair T (o / 8)
    → d < length w.word → d < length w.one → d < length w.other → w' ≡ noted w u (o % 8) e
    → Leads T head d t i v w → Leads T head d u (o / 8) v w'
leads-step {T} {head} {d} {t} {i} {v} {w} o e u z ho he hw h1 h2 n g =
    subst (Leads T head d u (o / 8) v) (sym n) (λ G counts justified x. trace-step G counts T head d t i w justified (g G counts justified x) o e u z ho he hw h1 h2)
