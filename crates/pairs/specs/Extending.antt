-- Two walks on one word, made longer by one letter. Assumes nothing.
use Rattle.std.specs.Prelude.{ℕ, suc, ◌≡◌, refl}
use Rattle.std.proofs.Common.{sym, ◌∙◌, subst, arith}
use Rattle.sets.specs.Sets.{Member}
use Rattle.finite.specs.Paths.{glue, glue-lt, glue-ge, extend}
use Rattle.automaton.specs.Graph.{Graph, Edge}
use Rattle.automaton.specs.Meeting.{Walk, Meet}

-- two walks on one word of t letters, which end in q and r
pub record Both (G : Graph) (t q r : ℕ) : Type 0 where
  pub word : ℕ → ℕ
  pub one : ℕ → ℕ
  pub other : ℕ → ℕ
  pub walk-one : Walk G word t one
  pub walk-other : Walk G word t other
  pub end-one : one t ≡ q
  pub end-other : other t ≡ r

walk_step : (G : Graph) (w x : ℕ → ℕ) (t l z : ℕ) → Walk G w t x → Edge G l (x t) z
    → Walk G (glue w (λ s. l) t) (suc t) (glue x (λ s. z) (suc t))
walk_step G w x t l z v e = record {
  starts = rw (glue-lt x (λ s. z) (suc t) 0 (omega arith)) v.starts;
  goes = λ s h. extend (λ s. Edge G (glue w (λ s. l) t s)) 0 t z x
      (λ s a b. rw (glue-lt w (λ s. l) t s b) (v.goes s b))
      (rw (glue-ge w (λ s. l) t t (omega arith)) e) s (omega arith) h;
}

-- on the empty word
pub both-start : (G : Graph) (q r : ℕ) → Member G.initial q → Member G.initial r → Both G 0 q r
both-start G q r a b = record {
  word = λ s. 0;
  one = λ s. q;
  other = λ s. r;
  walk-one = record { starts = a; goes = λ s l. absurd (omega arith) };
  walk-other = record { starts = b; goes = λ s l. absurd (omega arith) };
  end-one = refl;
  end-other = refl;
}

pub both-step : (G : Graph) (t l q r q' r' : ℕ) → Both G t q r → Edge G l q q' → Edge G l r r' → Both G (suc t) q' r'
both-step G t l q r q' r' b e f = record {
  word = glue b.word (λ s. l) t;
  one = glue b.one (λ s. q') (suc t);
  other = glue b.other (λ s. r') (suc t);
  walk-one = walk_step G b.word b.one t l q' b.walk-one (rw b.end-one e);
  walk-other = walk_step G b.word b.other t l r' b.walk-other (rw b.end-other f);
  end-one = glue-ge b.one (λ s. q') (suc t) (suc t) (omega arith);
  end-other = glue-ge b.other (λ s. r') (suc t) (suc t) (omega arith);
}

-- two states that one letter brings to one state that counts
pub both_meet : (G : Graph) (Counts : ℕ → Type 0) (t l q r z : ℕ) → Both G t q r → (q ≡ r → ⊥) → Edge G l q z → Edge G l r z → Counts z
    → (w : ℕ → ℕ) × (x : ℕ → ℕ) × (y : ℕ → ℕ) × Meet G Counts w (suc t) x y
unfolding both-step
both_meet G Counts t l q r z b f e g c =
    let d = both-step G t l q r z z b e g in
    let u : glue b.one (λ s. z) (suc t) t ≡ q = glue-lt b.one (λ s. z) (suc t) t (omega arith) ∙ b.end-one in
    let v : glue b.other (λ s. z) (suc t) t ≡ r = glue-lt b.other (λ s. z) (suc t) t (omega arith) ∙ b.end-other in (
      d.word,
      d.one,
      d.other,
      record {
        one = d.walk-one;
        other = d.walk-other;
        differ = (t, omega arith, λ h. f (sym u ∙ h ∙ v));
        shared = d.end-one ∙ sym d.end-other;
        counts = subst Counts (sym d.end-one) c;
      },
    )
