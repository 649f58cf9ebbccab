-- The loop over the passes of the cycle: what holds before the first, after one more, and at the first repeat. Assumes nothing.
use Rattle.std.specs.Prelude.{ℕ, suc, ◌+◌, ◌*◌, ◌≤◌, ◌<◌, ◌≡◌, List, length, get_or, set, replicate}
use Rattle.std.proofs.Common.{sym, ◌∙◌, ap, arith, length-set}
use Rattle.std.proofs.lemmas.List.{length-replicate}
use Rattle.passes.specs.declared.Pass.{Pass}
use Rattle.passes.specs.declared.Verdict.{Verdict}
use Rattle.passes.specs.Passes.{FirstRepeat, LeastOf, AnswerIs}
use Rattle.passes.specs.TableRun.{TablesFit, LettersFit, word_of, entered_in, end_number, Passing, TableJudges}
use Rattle.passes.specs.LeastLaws.{least-joined, least-down}
use Rattle.passes.specs.TableRunLaws.{reached-below, pass-end, pass-least, lead-end}
use Rattle.passes.specs.EndLaws.{Seen, seen_none, seen_more, seen_few, seen-again, Leasts, leasts-more}

-- after some passes, the last of which ended at number `at`
pub record AfterPasses (tuples nexts : List ℕ) (count : ℕ) (letters : List ℕ) (lead cycle : ℕ) (seen leasts : List ℕ) (passes at : ℕ) : Type 0 where
  pub here : at ≡ end_number nexts (word_of letters lead cycle) lead cycle passes
  pub below : at < count
  pub few : passes ≤ count
  pub ends : Seen (end_number nexts (word_of letters lead cycle) lead cycle) passes seen
  pub colours : Leasts (entered_in tuples nexts 0 (word_of letters lead cycle)) lead cycle passes leasts
  pub seen-cells : length seen ≡ 1024
  pub leasts-cells : length leasts ≡ 1025

module _ {tuples nexts : List ℕ} {count : ℕ} {letters : List ℕ} {lead cycle : ℕ} (tables : TablesFit tuples nexts count) (fit : LettersFit letters lead cycle) where
  abbrev word : ℕ → ℕ
  word = word_of letters lead cycle

  abbrev end : ℕ → ℕ
  end = end_number nexts word lead cycle

  end_below : (i : ℕ) → end i < count
  end_below i = reached-below nexts 0 count tables.numbers tables.room.some word (lead + i * cycle)

  pub passes_none : (z : Pass) → Passing tuples nexts count 0 (λ i. get_or letters (0 + i) 0) lead z
      → AfterPasses tuples nexts count letters lead cycle (replicate 1024 0) (replicate 1025 0) 0 z.at
  passes_none z h = record {
    here = lead-end letters lead cycle fit.all tuples nexts count z h;
    below = h.below;
    few = omega arith;
    ends = seen_none end 1024;
    colours = λ j l. absurd (omega arith);
    seen-cells = length-replicate {A = ℕ} 1024 0;
    leasts-cells = length-replicate {A = ℕ} 1025 0;
  }

  module _ {seen leasts : List ℕ} {passes at : ℕ} (h : AfterPasses tuples nexts count letters lead cycle seen leasts passes at) where
    pub passes-few : get_or seen at 0 ≡ 0 → passes < count
    passes-few new = seen_few end passes seen h.ends (ap (λ (x : ℕ). get_or seen x 0) (sym h.here) ∙ new) count end_below

    pub passes-more : get_or seen at 0 ≡ 0 → (z : Pass) → Passing tuples nexts count at (λ i. get_or letters (lead + i) 0) cycle z
        → AfterPasses tuples nexts count letters lead cycle (set seen at (passes + 1)) (set leasts (passes + 1) z.least) (passes + 1) z.at
    passes-more new z p =
        let e = h.here in
        let q : Passing tuples nexts count (end passes) (λ i. get_or letters (lead + i) 0) cycle z = rw e at p in
        let n : get_or seen (end passes) 0 ≡ 0 = rw e at new in
        let b = h.below in
        let l = passes-few new in
        let m = tables.room.most in
        let s : passes + 1 ≡ suc passes = omega arith in
        record {
          here = pass-end letters lead cycle fit.all tuples nexts count passes z q ∙ ap end (sym s);
          below = p.below;
          few = omega arith;
          ends = rw (ap (λ (x : ℕ). set seen x (passes + 1)) e) (seen_more end passes seen h.ends n (omega (arith, h.seen-cells)));
          colours =
              leasts-more (entered_in tuples nexts 0 word) lead cycle passes z.least leasts h.colours (omega (arith, h.leasts-cells))
              (pass-least letters lead cycle fit.all tuples nexts count passes z q fit.cycle-some);
          seen-cells = length-set seen at (passes + 1) ∙ h.seen-cells;
          leasts-cells = length-set leasts (passes + 1) z.least ∙ h.leasts-cells;
        }

    -- the repeat: the cell of the number at the end tells which pass comes after the earlier end
    module _ (old : get_or seen at 0 ≡ 0 → ⊥) where
      repeat : (j : ℕ) × FirstRepeat end j passes × (get_or seen at 0 ≡ suc j)
      repeat =
          let (j, r, e) = seen-again end passes seen h.ends (rw h.here at old) in
          (j, r, ap (λ (x : ℕ). get_or seen x 0) h.here ∙ e)

      pub repeat-range : (get_or seen at 0 ≤ passes) × (passes < 1025)
      repeat-range =
          let (j, r, e) = repeat in
          let l = r.earlier in
          let m = tables.room.most in
          (omega arith, omega (arith, h.few))

      pub repeat-judged : (z : Verdict) → z.passes ≡ passes → LeastOf (λ i. get_or leasts i 0) (get_or seen at 0) (passes + 1) z.least
          → AnswerIs z.least z.answer → TableJudges tuples nexts count word lead cycle z
      repeat-judged z same least answer =
          let (j, r, e) = repeat in
          let l : LeastOf (λ i. get_or leasts (suc i) 0) j passes z.least = least-down (λ i. get_or leasts i 0) j passes z.least (rw e at least) in
          let m = least-joined (entered_in tuples nexts 0 word) (λ i. get_or leasts (suc i) 0) lead cycle j passes z.least l (λ i a b. h.colours i b) fit.cycle-some in
          record {
            earlier = j;
            repeat = rw same r;
            least = rw same m;
            answer = answer;
            passes = rw same h.few;
          }
