-- The tests for meeting walks tell what the definitions say: two walks on one word keep to the pairs of states that are reached. Assumes nothing.
use Prim.Native.Nat.{ℕ, zero, suc, ◌+◌, ◌*◌, ◌/◌, ◌-◌, ◌≤◌, ◌<◌}
use Rattle.std.specs.Prelude.{◌≡◌, true, ◌&&◌, List, eqb, ltb, length, get_or}
use Rattle.std.proofs.Common.{sym}
use Rattle.std.proofs.Math.Path.{subst}
use Rattle.std.proofs.Math.Bool.{not, and-eq-true_iff}
use native.Mathlib.Omega.{arith}
use Rattle.std.proofs.Math.Decide.{dec_lt}
use borrow.Author.Tests.{eq-eqb, ne_eqb, ltb-true, eqb-true, eqb-false, not-true}
use Rattle.std.proofs.Math.ListN.{get_or-eq_default}
use Rattle.sets.specs.Sets.{bit}
use Rattle.automaton.specs.Graph.{Graph, GraphFits, Edge}
use Rattle.automaton.specs.Meeting.{Walk, Meet, NoneShorter, cells}
use Rattle.automaton.specs.Endless.{EndlessFrom, MeetingFree, MeetingWitness}
use Rattle.automaton.specs.EndlessLaws.{endless-back}
use Rattle.automaton.specs.EdgeLaws.{walk-in}
use Rattle.pairs.specs.Joining.{Joins, meet-joins}
use Rattle.pairs.specs.Bound.{shortest-bound}
use Rattle.known.specs.Below.{any}
use Rattle.known.specs.BelowLaws.{not-both, all-at, any_of, any-is}
use Rattle.known.specs.MeetingTest.{is_member, is_edge, is_endless, pair_reached, together, join_at, none_up_to, is_free, is_walk, do_meet, is_shortest}
use Rattle.known.specs.EndlessTestLaws.{edge_test, edge-is, endless-test, endless-is}

module _ (G : Graph) (fits : GraphFits G) (w : ℕ → ℕ) (t : ℕ) (x y : ℕ → ℕ) (v : Walk G w t x) (v' : Walk G w t y) where
  walks-reached : (s : ℕ) → s ≤ t → pair_reached G s (x s) (y s) ≡ true
  unfolding pair_reached
  walks-reached zero h = rw (eq-eqb (bit G.initial (x 0)) 1 v.starts) (eq-eqb (bit G.initial (y 0)) 1 v'.starts)
  walks-reached (suc s) h =
      let e = v.goes s (omega arith) in
      let f = v'.goes s (omega arith) in
      let l = any_of G.k (λ l. is_edge G l (x s) (x (suc s)) && is_edge G l (y s) (y (suc s))) (w s) e.letter
      ((and-eq-true_iff (is_edge G (w s) (x s) (x (suc s))) (is_edge G (w s) (y s) (y (suc s)))).1 (edge_test G (w s) (x s) (x (suc s)) e, edge_test G (w s) (y s) (y (suc s)) f)) in
      any_of G.n _ (x s) e.from (any_of G.n _ (y s) f.from ((and-eq-true_iff _ (pair_reached G s (x s) (y s))).1 (l, walks-reached s (omega arith))))

  join-at : (s : ℕ) → s < t → Joins (EndlessFrom G) x y s → join_at G s ≡ true
  unfolding join_at together
  join-at s h j =
      let e = v.goes s h in
      let f = subst (Edge G (w s) (y s)) (sym j.joined) (v'.goes s h) in
      let z = walk-in G fits w t x v (suc s) h in
      let both = (and-eq-true_iff (is_edge G (w s) (y s) (x (suc s))) (is_endless G (x (suc s)))).1
      (edge_test G (w s) (y s) (x (suc s)) f, endless-test G fits (x (suc s)) j.counts) in
      let g = any_of G.k (λ l. any G.n (λ z. is_edge G l (x s) z && (is_edge G l (y s) z && is_endless G z))) (w s) e.letter
      (any_of G.n (λ z. is_edge G (w s) (x s) z && (is_edge G (w s) (y s) z && is_endless G z)) (x (suc s)) z
      ((and-eq-true_iff (is_edge G (w s) (x s) (x (suc s))) _).1 (edge_test G (w s) (x s) (x (suc s)) e, both))) in
      any_of G.n _ (x s) e.from
      (any_of G.n _ (y s) f.from
      (rw (ne_eqb (x s) (y s) j.apart) ((and-eq-true_iff _ (pair_reached G s (x s) (y s))).1 (g, walks-reached s (omega arith)))))

module _ (G : Graph) (fits : GraphFits G) where
  none-up-to : (m : ℕ) → none_up_to G m ≡ true → (w : ℕ → ℕ) (t : ℕ) (x y : ℕ → ℕ) → t ≤ m → Meet G (EndlessFrom G) w t x y → ⊥
  unfolding none_up_to
  none-up-to m e w t x y h meet =
      let (s, l, j) = meet-joins G (EndlessFrom G) endless-back w t x y meet in
      not-both (join_at G s) (all-at m (λ t. not (join_at G t)) e s (omega arith)) (join-at G fits w t x y meet.one meet.other s l j)

  -- a word with meeting walks would be no longer than those tested, or there would be a shorter one
  free-below : is_free G ≡ true → (t : ℕ) → NoneShorter G (EndlessFrom G) t
  unfolding is_free
  free-below e zero w s x y l meet = omega arith
  free-below e (suc t) w s x y l meet = by (dec_lt s t) (free-below e t)
    where
      by : Dec (s < t) → NoneShorter G (EndlessFrom G) t → ⊥
      by (yes h) ih = ih w s x y h meet
      by (no h) ih =
          none-up-to (G.n * (G.n + 1) / 2) e w s x y
          (shortest-bound G fits (EndlessFrom G) endless-back w s x y meet (λ w u x y k. ih w u x y (omega arith))) meet

  pub free-is : is_free G ≡ true → MeetingFree G
  free-is e w t x y = free-below e (suc t) w t x y (omega arith)

  walk_is : (word x : List ℕ) → is_walk G word x ≡ true → (length x ≡ suc (length word)) × Walk G (cells word) (length word) (cells x)
  unfolding is_walk
  walk_is word x e =
      let (a, f) = (and-eq-true_iff (eqb (length x) (suc (length word))) _).0 e in
      let (b, c) = (and-eq-true_iff (is_member G.initial (get_or x 0 0)) _).0 f in (
        eqb-true (length x) (suc (length word)) a,
        record {
          starts = eqb-true (bit G.initial (get_or x 0 0)) 1 b;
          goes = λ s h. edge-is G (get_or word s 0) (get_or x s 0) (get_or x (suc s) 0) (all-at (length word) _ c s h);
        },
      )

  pub shortest-is : (word one other : List ℕ) → is_shortest G word one other ≡ true → MeetingWitness G (length word) word one other
  unfolding is_shortest do_meet
  shortest-is word one other e =
      let (a, f) = (and-eq-true_iff (ltb (length word) 137) _).0 e in
      let (m, none) = (and-eq-true_iff (do_meet G word one other) (none_up_to G (length word - 1))).0 f in
      let (b, g) = (and-eq-true_iff (is_walk G word one) _).0 m in
      let (c, h) = (and-eq-true_iff (is_walk G word other) _).0 g in
      let (d, k) = (and-eq-true_iff (any (suc (length word)) (λ s. not (eqb (get_or one s 0) (get_or other s 0)))) _).0 h in
      let (shared, last) = (and-eq-true_iff (eqb (get_or one (length word) 0) (get_or other (length word) 0)) (is_endless G (get_or one (length word) 0))).0 k in
      let (l, x) = walk_is word one b in
      let (o, y) = walk_is word other c in
      let (s, p, q) = any-is (suc (length word)) (λ s. not (eqb (get_or one s 0) (get_or other s 0))) d in
      let z = ltb-true (length word) 137 a in
      record {
        meets = record {
          one = x;
          other = y;
          differ = (s, omega arith, eqb-false (get_or one s 0) (get_or other s 0) (not-true (eqb (get_or one s 0) (get_or other s 0)) q));
          shared = eqb-true (get_or one (length word) 0) (get_or other (length word) 0) shared;
          counts = endless-is G fits (get_or one (length word) 0) last;
        };
        shortest = λ w t x y i. none-up-to (length word - 1) none w t x y (omega arith);
        most = omega arith;
        behind-word = λ i i'. get_or-eq_default word 0 i';
        behind-one = λ i i'. get_or-eq_default one 0 (omega arith);
        behind-other = λ i i'. get_or-eq_default other 0 (omega arith);
      }
