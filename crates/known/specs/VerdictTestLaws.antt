-- The verdict's test tells what the definition says. Assumes nothing.
use Prim.Native.Nat.{ℕ, zero, suc, ◌+◌, ◌*◌, ◌-◌, ◌%◌, ◌≤◌, ◌<◌}
use Rattle.std.specs.Prelude.{◌≡◌, true, ◌⊎◌, ltb, length}
use Rattle.std.proofs.Math.Path.{refl, ap}
use Rattle.std.proofs.Common.{sym, ◌∙◌, inl, inr}
use Rattle.std.proofs.Math.Bool.{not, and-eq-true_iff}
use mathlib.Core.List.{List, [], ◌∷◌, ◌++◌}
use native.Mathlib.Omega.{arith}
use Rattle.std.proofs.Math.Decide.{ℕ_discrete}
use borrow.Author.Tests.{ltb-true, ltb-false, eqb-true, not-true}
use Rattle.lists.specs.AppendLaws.{length_more}
use Rattle.finite.specs.Least.{lowest}
use Rattle.automaton.specs.Automaton.{Automaton}
use Rattle.tuple.specs.Step.{Tuple, colour_entered}
use Rattle.numbering.specs.Numbering.{tuple_at}
use Rattle.numbering.specs.Explore.{tuple_number}
use Rattle.numbering.proofs.ExploreLaws.{Listed, tuple-number-is, agree-more, last-is}
use Rattle.passes.specs.declared.Answer.{Answer}
use Rattle.passes.specs.declared.Answer.TheVariants.{Yes, No}
use Rattle.passes.specs.declared.Verdict.{Verdict}
use Rattle.passes.specs.LeastLaws.{least-lowest}
use Rattle.passes.specs.Passes.{pass_end, FirstRepeat, LeastColour, AnswerIs, Judges}
use Rattle.known.specs.BelowLaws.{all-at}
use Rattle.known.specs.VerdictTest.{ends, earlier_of, is_repeat, least_entered, is_answer, is_least, is_verdict}

module _ (A : Automaton) (w : ℕ → ℕ) (m c : ℕ) where
  ends-length : (b : ℕ) → length (ends A w m c b) ≡ b
  unfolding ends
  ends-length zero = refl
  ends-length (suc b) = length_more (ends A w m c b) (pass_end A w m c b) ∙ ap suc (ends-length b)

  ends_at : (b i : ℕ) → i < b → tuple_at A (ends A w m c b) i ≡ pass_end A w m c i
  unfolding ends
  ends_at zero i h = absurd (omega arith)
  ends_at (suc b) i h = by (ℕ_discrete i b) (ends_at b i)
    where
      es : List Tuple
      es = ends A w m c b

      by : Dec (i ≡ b) → (i < b → tuple_at A es i ≡ pass_end A w m c i) → tuple_at A (es ++ (pass_end A w m c b ∷ [])) i ≡ pass_end A w m c i
      by (yes e) ih =
          ap (tuple_at A (es ++ (pass_end A w m c b ∷ []))) (e ∙ sym (ends-length b))
          ∙ (last-is A es (pass_end A w m c b) ∙ ap (pass_end A w m c) (sym e))
      by (no e) ih = sym (agree-more A es (pass_end A w m c b) i (omega (arith, ends-length b))) ∙ ih (omega arith)

  -- the end of pass j is none of the earlier, or the one found
  earlier-is : (j : ℕ) → earlier_of A w m c j < j → pass_end A w m c (earlier_of A w m c j) ≡ pass_end A w m c j
  unfolding earlier_of
  earlier-is j h = by (tuple-number-is A (pass_end A w m c j) (ends A w m c j))
    where
      e : ℕ
      e = tuple_number (pass_end A w m c j) (ends A w m c j)

      by : ((e < length (ends A w m c j)) × (tuple_at A (ends A w m c j) e ≡ pass_end A w m c j)) ⊎ ((length (ends A w m c j) ≤ e) × (Listed A (ends A w m c j) (pass_end A w m c j) → ⊥))
          → pass_end A w m c e ≡ pass_end A w m c j
      by (inl (l, f)) = sym (ends_at j e h) ∙ f
      by (inr (l, f)) = absurd (omega (arith, ends-length j))

  earlier-none : (j : ℕ) → j ≤ earlier_of A w m c j → (i : ℕ) → i < j → pass_end A w m c i ≡ pass_end A w m c j → ⊥
  unfolding earlier_of
  earlier-none j h i l q = by (tuple-number-is A (pass_end A w m c j) (ends A w m c j))
    where
      e : ℕ
      e = tuple_number (pass_end A w m c j) (ends A w m c j)

      by : ((e < length (ends A w m c j)) × (tuple_at A (ends A w m c j) e ≡ pass_end A w m c j)) ⊎ ((length (ends A w m c j) ≤ e) × (Listed A (ends A w m c j) (pass_end A w m c j) → ⊥)) → ⊥
      by (inl (k, f)) = omega (arith, ends-length j)
      by (inr (k, f)) = f (i, omega (arith, ends-length j), ends_at j i l ∙ q)

  repeat-is : (b : ℕ) → is_repeat A w m c b ≡ true → FirstRepeat (pass_end A w m c) (earlier_of A w m c b) b
  unfolding is_repeat
  repeat-is b e =
      let (p, q) = (and-eq-true_iff (ltb (earlier_of A w m c b) b) _).0 e in
      let l = ltb-true (earlier_of A w m c b) b p in
      record {
        earlier = l;
        equal = earlier-is b l;
        first = λ i j h k. earlier-none j
            (ltb-false (earlier_of A w m c j) j (not-true (ltb (earlier_of A w m c j) j) (all-at b (λ j. not (ltb (earlier_of A w m c j) j)) q j k))) i h;
      }

  least-is : (t u least : ℕ) → is_least A w t u least ≡ true → LeastColour A w t u least
  unfolding is_least least_entered
  least-is t u least e =
      let (p, q) = (and-eq-true_iff (ltb t u) _).0 e in
      let l = ltb-true t u p in
      let d = u - suc t in
      let e : t + suc d ≡ u = omega arith in
      let g : lowest (colour_entered A w) t d ≡ least = eqb-true (lowest (colour_entered A w) t d) least q in
      rw (e, g) at (least-lowest (colour_entered A w) t d)

  answer-is : (least : ℕ) (answer : Answer) → is_answer least answer ≡ true → AnswerIs least answer
  unfolding is_answer
  answer-is least Yes e = eqb-true (least % 2) 0 e
  answer-is least No e = eqb-true (least % 2) 1 e

  pub verdict-is : (z : Verdict) → is_verdict A w m c z ≡ true → Judges A w m c z
  unfolding is_verdict
  verdict-is z e =
      let (p, f) = (and-eq-true_iff (is_repeat A w m c z.passes) _).0 e in
      let (q, r) = (and-eq-true_iff (is_least A w (m + earlier_of A w m c z.passes * c) (m + z.passes * c) z.least) _).0 f in
      record {
        earlier = earlier_of A w m c z.passes;
        repeat = repeat-is z.passes p;
        least = least-is (m + earlier_of A w m c z.passes * c) (m + z.passes * c) z.least q;
        answer = answer-is z.least z.answer r;
      }
