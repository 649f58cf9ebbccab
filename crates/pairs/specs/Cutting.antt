-- Where two walks on one word are twice in the same pair of states, the letters in between can be cut out. Assumes nothing.
use Rattle.std.specs.Prelude.{ℕ, suc, ◌+◌, ◌-◌, ◌≤◌, ◌<◌, ◌≡◌}
use Rattle.std.proofs.Common.{sym, ◌∙◌, ap, subst, arith}
use Rattle.std.proofs.Math.Decide.{dec_lt}
use Rattle.sets.specs.Sets.{Member}
use Rattle.finite.specs.Paths.{glue, glue-lt, glue-ge, joined}
use Rattle.automaton.specs.Graph.{Graph, Edge}
use Rattle.automaton.specs.Meeting.{Walk, Meet}
use Rattle.pairs.specs.Joining.{Joins, joins-meet}

-- f before time u, and from there on what g has d places later
abbrev cut : (ℕ → ℕ) → (ℕ → ℕ) → ℕ → ℕ → ℕ → ℕ
cut f g u d = glue f (λ i. g (i + d)) u

cut-late : (f g : ℕ → ℕ) (u d s i : ℕ) → u ≤ i → i + d ≡ s → cut f g u d i ≡ g s
cut-late f g u d s i l e = glue-ge f (λ i. g (i + d)) u i l ∙ ap g e

-- walk x for u letters, then walk z from d letters later, where it is in the same state
cut-walk : (G : Graph) (w x z : ℕ → ℕ) (t u d : ℕ) → u + d ≤ t → x u ≡ z (u + d) → Walk G w t x → Walk G w t z
    → Walk G (cut w w u d) (t - d) (cut x z u d)
cut-walk G w x z t u d l e v v' = record {
  starts = start (dec_lt 0 u);
  goes = joined (λ s. Edge G (cut w w u d s)) x (λ i. z (i + d)) u (t - d) e
      (λ s a. rw (glue-lt w (λ i. w (i + d)) u s a) (v.goes s (omega arith)))
      (λ s a b.
      let k : suc s + d ≡ suc (s + d) = omega arith in
      rw (glue-ge w (λ i. w (i + d)) u s a, k) (v'.goes (s + d) (omega arith)));
}
  where
    start : Dec (0 < u) → Member G.initial (cut x z u d 0)
    start (yes m) = rw (glue-lt x (λ i. z (i + d)) u 0 m) v.starts
    start (no m) =
        let o : u ≡ 0 = omega arith in
        subst (Member G.initial) (ap x (sym o) ∙ e ∙ ap (λ i. z (i + d)) o ∙ sym (glue-ge x (λ i. z (i + d)) u 0 (omega arith))) v.starts

-- Walks x and y join after s letters; walks p and q on the same word are at time u where x and y are at time u + d.
pub cut-meet : (G : Graph) (Counts : ℕ → Type 0) (w p q x y : ℕ → ℕ) (s u d : ℕ) → u + d ≤ s → p u ≡ x (u + d) → q u ≡ y (u + d)
    → Walk G w (suc s) p → Walk G w (suc s) q → Walk G w (suc s) x → Walk G w (suc s) y → Joins Counts x y s
    → Meet G Counts (cut w w u d) (suc s - d) (cut p x u d) (cut q y u d)
cut-meet G Counts w p q x y s u d l e f vp vq vx vy j =
    let o : suc s - d ≡ suc (s - d) = omega arith in
    let a = cut-late p x u d s (s - d) (omega arith) (omega arith) in
    let b = cut-late q y u d s (s - d) (omega arith) (omega arith) in
    let a' = cut-late p x u d (suc s) (suc (s - d)) (omega arith) (omega arith) in
    let b' = cut-late q y u d (suc s) (suc (s - d)) (omega arith) (omega arith) in
    subst (λ i. Meet G Counts (cut w w u d) i (cut p x u d) (cut q y u d)) (sym o)
    (joins-meet (s - d)
    (subst (λ i. Walk G (cut w w u d) i (cut p x u d)) o (cut-walk G w p x (suc s) u d (omega arith) e vp vx))
    (subst (λ i. Walk G (cut w w u d) i (cut q y u d)) o (cut-walk G w q y (suc s) u d (omega arith) f vq vy))
    (record { apart = λ z. j.apart (sym a ∙ z ∙ b); joined = a' ∙ j.joined ∙ sym b'; counts = subst Counts (sym a') j.counts }))
