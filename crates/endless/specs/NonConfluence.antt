-- THE THEOREM: a sheet is free of meeting walks exactly if it is non-confluent in document 001's sense, which speaks of endless runs alone.
-- Assumes nothing.
use Rattle.std.specs.Prelude.{ℕ, suc, ◌-◌, ◌≤◌, ◌<◌, ◌≡◌, ◌↔◌}
use Rattle.std.proofs.Math.Path.{sym, ap}
use Rattle.std.proofs.Common.{subst, ◌∙◌, arith}
use Rattle.std.proofs.Math.Decide.{dec_lt, ℕ_discrete}
use Rattle.sets.specs.Sets.{Member}
use Rattle.finite.specs.Paths.{glue, glue-lt, glue-ge, joined}
use Rattle.automaton.specs.Graph.{Graph, Edge}
use Rattle.automaton.specs.Meeting.{Walk}
use Rattle.automaton.specs.Reading.{Reading}
use Rattle.automaton.specs.Endless.{EndlessPath, MeetingFree, NonConfluent}
use Rattle.automaton.specs.EndlessLaws.{reading-endless, reading-walk}

module _ (G : Graph) where
  -- two readings that intersect and differ before are two walks that meet
  readings-agree : MeetingFree G → NonConfluent G
  readings-agree free w x y h k t e s l = by (ℕ_discrete (x s) (y s))
    where
      by : Dec (x s ≡ y s) → x s ≡ y s
      by (yes g) = g
      by (no f) =
          absurd (free w t x y (record {
            one = reading-walk h t;
            other = reading-walk k t;
            differ = (s, l, f);
            shared = e;
            counts = reading-endless w x h t;
          }))

  -- a walk of t letters goes on along an endless path from its end, with the path's letters
  module _ (w : ℕ → ℕ) (t : ℕ) (z : ℕ → ℕ) (path : EndlessPath G z) where
    word : ℕ → ℕ
    word = glue w (λ s. (path (s - t)).0) t

    onward : (ℕ → ℕ) → ℕ → ℕ
    onward x = glue x (λ s. z (s - t)) t

    onward-reading : (x : ℕ → ℕ) → Walk G w t x → z 0 ≡ x t → Reading G word (onward x)
    unfolding word onward
    onward-reading x walk e = record {
      starts = starts (dec_lt 0 t);
      goes = λ s. joined (λ s. Edge G (word s)) x (λ s. z (s - t)) t (suc s) meets first (λ s l m. then s l) s (omega arith);
    }
      where
        meets : x t ≡ z (t - t)
        meets = sym e ∙ ap z (omega arith)

        first : (s : ℕ) → s < t → Edge G (word s) (x s) (x (suc s))
        first s l = subst (λ (a : ℕ). Edge G a (x s) (x (suc s))) (sym (glue-lt w (λ s. (path (s - t)).0) t s l)) (walk.goes s l)

        then : (s : ℕ) → t ≤ s → Edge G (word s) (z (s - t)) (z (suc s - t))
        then s l =
            let a : suc (s - t) ≡ suc s - t = omega arith in
            subst (λ (a : ℕ). Edge G a (z (s - t)) (z (suc s - t))) (sym (glue-ge w (λ s. (path (s - t)).0) t s l))
            (subst (λ (u : ℕ). Edge G (path (s - t)).0 (z (s - t)) (z u)) a (path (s - t)).1)

        starts : Dec (0 < t) → Member G.initial (onward x 0)
        starts (yes l) = subst (Member G.initial) (sym (glue-lt x (λ s. z (s - t)) t 0 l)) walk.starts
        starts (no l) =
            let a : 0 ≡ 0 - t = omega arith in
            let b : 0 ≡ t = omega arith in
            subst (Member G.initial) (ap x b ∙ sym e ∙ ap z a ∙ sym (glue-ge x (λ s. z (s - t)) t 0 (omega arith))) walk.starts

    onward-end : (x : ℕ → ℕ) → onward x t ≡ z (t - t)
    unfolding onward
    onward-end x = glue-ge x (λ s. z (s - t)) t t (omega arith)

    onward-start : (x : ℕ → ℕ) (s : ℕ) → s < t → onward x s ≡ x s
    unfolding onward
    onward-start x s l = glue-lt x (λ s. z (s - t)) t s l

  walks-agree : NonConfluent G → MeetingFree G
  walks-agree same w t x y m = by (dec_lt s t)
    where
      s : ℕ
      s = m.differ.0

      z : ℕ → ℕ
      z = m.counts.0

      path : EndlessPath G z
      path = m.counts.2

      agree : s < t → x s ≡ y s
      agree l =
          let a = onward-reading w t z path x m.one m.counts.1 in
          let b = onward-reading w t z path y m.other (m.counts.1 ∙ m.shared) in
          let e = same (word w t z path) (onward w t z path x) (onward w t z path y) a b t (onward-end w t z path x ∙ sym (onward-end w t z path y)) s m.differ.1 in
          sym (onward-start w t z path x s l) ∙ e ∙ onward-start w t z path y s l

      by : Dec (s < t) → ⊥
      by (yes l) = m.differ.2 (agree l)
      by (no l) = let u : s ≡ t = (let h = m.differ.1 in omega arith) in m.differ.2 (ap x u ∙ m.shared ∙ sym (ap y u))

  pub non-confluent : MeetingFree G ↔ NonConfluent G
  non-confluent = (readings-agree, walks-agree)
