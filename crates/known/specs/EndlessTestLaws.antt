-- The tests for transitions and for endless paths tell what the definitions say: in a path of n transitions some state comes twice. Assumes nothing.
use Prim.Native.Nat.{ℕ, zero, suc, ◌+◌, ◌-◌, ◌≤◌, ◌<◌}
use Rattle.std.specs.Prelude.{◌≡◌, true, ◌&&◌, ltb}
use Rattle.std.proofs.Math.Path.{refl, subst}
use Rattle.std.proofs.Common.{sym, ap, ◌∙◌, arith, lt-ltb, eq-eqb, ltb-true, eqb-true}
use Rattle.std.proofs.Math.Bool.{and-eq-true_iff}
use Rattle.sets.specs.Sets.{bit}
use Rattle.finite.specs.Finite.{pigeon}
use Rattle.finite.specs.Paths.{preceded, preceded-first, preceded-goes, loop}
use Rattle.automaton.specs.Graph.{Graph, GraphFits, Edge, successor_set}
use Rattle.automaton.specs.EdgeLaws.{edge-state}
use Rattle.automaton.specs.Endless.{EndlessFrom}
use Rattle.automaton.specs.EndlessLaws.{endless-step}
use Rattle.known.specs.Below.{any}
use Rattle.known.specs.BelowLaws.{any_of, any-is}
use Rattle.known.specs.MeetingTest.{is_member, is_edge, has_path, is_endless}

pub edge_test : (G : Graph) (l q r : ℕ) → Edge G l q r → is_edge G l q r ≡ true
unfolding is_edge
edge_test G l q r e = rw (lt-ltb l G.k e.letter, lt-ltb q G.n e.from) (eq-eqb (bit (successor_set G.table q l) r) 1 e.to)

pub edge-is : (G : Graph) (l q r : ℕ) → is_edge G l q r ≡ true → Edge G l q r
unfolding is_edge
edge-is G l q r e =
    let (a, f) = (and-eq-true_iff (ltb l G.k) (ltb q G.n && is_member (successor_set G.table q l) r)).0 e in
    let (b, c) = (and-eq-true_iff (ltb q G.n) (is_member (successor_set G.table q l) r)).0 f in
    record { letter = ltb-true l G.k a; from = ltb-true q G.n b; to = eqb-true (bit (successor_set G.table q l) r) 1 c }

-- a path of d transitions from q
record PathFrom (G : Graph) (d q : ℕ) : Type 0 where
  states : ℕ → ℕ
  starts : states 0 ≡ q
  goes : (s : ℕ) → s < d → (l : ℕ) × Edge G l (states s) (states (suc s))

module _ (G : Graph) (fits : GraphFits G) where
  path-test : (d q : ℕ) → EndlessFrom G q → has_path G d q ≡ true
  unfolding has_path
  path-test zero q h = refl
  path-test (suc d) q h =
      let (l, r, e, k) = endless-step h in
      any_of G.k (λ l. any G.n (λ r. is_edge G l q r && has_path G d r)) l e.letter
      (any_of G.n (λ r. is_edge G l q r && has_path G d r) r (edge-state G fits l q r e)
      ((and-eq-true_iff (is_edge G l q r) (has_path G d r)).1 (edge_test G l q r e, path-test d r k)))

  pub endless-test : (q : ℕ) → EndlessFrom G q → is_endless G q ≡ true
  unfolding is_endless
  endless-test q h = path-test G.n q h

  path-is : (d q : ℕ) → has_path G d q ≡ true → PathFrom G d q
  unfolding has_path
  path-is zero q h = record { states = λ s. q; starts = refl; goes = λ s l. absurd (omega arith) }
  path-is (suc d) q h =
      let (l, a, b) = any-is G.k (λ l. any G.n (λ r. is_edge G l q r && has_path G d r)) h in
      let (r, c, e) = any-is G.n (λ r. is_edge G l q r && has_path G d r) b in
      let (f, g) = (and-eq-true_iff (is_edge G l q r) (has_path G d r)).0 e in
      by l r (edge-is G l q r f) (path-is d r g)
    where
      by : (l r : ℕ) → Edge G l q r → PathFrom G d r → PathFrom G (suc d) q
      by l r e p = record {
        states = preceded q p.states;
        starts = preceded-first q p.states;
        goes = λ s m. preceded-goes (λ q r. (l : ℕ) × Edge G l q r) q p.states (l, subst (Edge G l q) (sym p.starts) e) s (λ u z. p.goes u (omega arith));
      }

  -- some state comes twice, and from there the path is folded into a loop
  pub endless-is : (q : ℕ) → is_endless G q ≡ true → EndlessFrom G q
  unfolding is_endless
  endless-is q h = let p = path-is G.n q h in by p (pigeon G.n p.states (inside p))
    where
      inside : (p : PathFrom G G.n q) (s : ℕ) → s ≤ G.n → p.states s < G.n
      inside p zero l = let m = fits.range.0 in (p.goes 0 (omega arith)).1.from
      inside p (suc s) l = let (a, e) = p.goes s (omega arith) in edge-state G fits a (p.states s) (p.states (suc s)) e

      by : (p : PathFrom G G.n q) → (a : ℕ) × (b : ℕ) × (a < b) × (b ≤ G.n) × (p.states a ≡ p.states b) → EndlessFrom G q
      by p (a, b, l, m, twice) =
          let x = p.states in
          let d : a + (b - a) ≡ b = omega arith in
          let (y, first, goes) = loop (λ s q r. (l : ℕ) × Edge G l q r) a (b - a) (omega arith) (λ s q r h k. k) x (ap x d ∙ sym twice)
          (λ s k. p.goes s (omega arith)) in
          (y, first 0 (omega arith) ∙ p.starts, goes)
