-- The first line of a sheet: it names its edition, and it passes or is refused as Format says. Assumes nothing.
use Rattle.std.specs.Prelude.{ℕ, ◌≤◌, ◌<◌, ◌≡◌, refl, true, List, ◌++◌, length, drop}
use Rattle.std.proofs.Common.{sym, subst, arith}
use Rattle.text.specs.Word.{starts_at, no_zero}
use Rattle.automaton.specs.Graph.{InRange}
use Rattle.automaton.specs.declared.Edition.{Edition}
use Rattle.automaton.specs.declared.Edition.TheVariants.{StateBased, TransitionBased}
use Rattle.format.specs.Format.{sheet_word, head_line, most_sheet, Faulty, head, range}
use Rattle.format.proofs.FormatLaws.{word-length}
use Rattle.parser.specs.declared.Sizes.{Sizes}
use Rattle.parser.specs.Parse.{edition_of, sizes, sheet_bounds, head_of}
use Rattle.frame.specs.Phase.{Phase, refused, passed}
use Rattle.frame.specs.FirstLaws.{Kind, line-outcome, line-form, line-right, line-range}

word-whole : (e : Edition) → no_zero (sheet_word e) ≡ true
word-whole StateBased = refl
word-whole TransitionBased = refl

abbrev sheet_first : Edition → Kind
sheet_first e = record {
  word = sheet_word e;
  Right = InRange;
  bounds = sheet_bounds;
  whole = word-whole e;
  within = λ n k h. h;
  right = λ n k h. h;
}

-- THE EDITION is the one whose first line stands there
head-edition : (e : Edition) (n k : ℕ) (rest : List ℕ) → edition_of (head_line e n k ++ rest) ≡ e
unfolding edition_of head_line starts_at
head-edition StateBased n k rest = refl
head-edition TransitionBased n k rest = refl

pub edition-of : (s : List ℕ) (e : Edition) (n k : ℕ) (rest : List ℕ) → s ≡ head_line e n k ++ rest → edition_of s ≡ e
edition-of s e n k rest t = subst (λ (x : List ℕ). edition_of x ≡ e) (sym t) (head-edition e n k rest)

abbrev pub HeadOutcome : List ℕ → Phase Sizes → Type 0
HeadOutcome s (refused number line) = Faulty s number line
HeadOutcome s (passed z) = InRange z.n z.k × (s ≡ head_line z.edition z.n z.k ++ drop 12 s)

module _ (s : List ℕ) where
  pub head-outcome : length s ≤ most_sheet → HeadOutcome s (head_of s)
  unfolding head_of head_line
  head-outcome size =
      let e = edition_of s in
      line-outcome (sheet_first e) s (sizes e) 3 4 (HeadOutcome s)
      (λ none. head size (λ d n k rest hn hk t. none n k rest hn hk (subst (λ (x : Edition). s ≡ head_line x n k ++ rest) (sym (edition-of s d n k rest t)) t)))
      (λ n k hn hk t out. range size e n k (drop 12 s) hn hk (rw (word-length e) at t) out) (λ n k hn hk t h. (h, rw (word-length e) at t))

  -- The other way round

  pub head-form : ((e : Edition) (n k : ℕ) (rest : List ℕ) → n < 1000 → k < 1000 → s ≡ head_line e n k ++ rest → ⊥) → head_of s ≡ refused 3 1
  unfolding head_of head_line
  head-form none = line-form (sheet_first (edition_of s)) s (sizes (edition_of s)) 3 4 (none (edition_of s))

  module _ (e : Edition) (n k : ℕ) (rest : List ℕ) where
    pub head-range : n < 1000 → k < 1000 → s ≡ head_line e n k ++ rest → (InRange n k → ⊥) → head_of s ≡ refused 4 1
    unfolding head_of head_line
    head-range hn hk t out = rw (edition-of s e n k rest t) (line-range (sheet_first e) s (sizes e) 3 4 n k rest hn hk t out)

    pub head-right : InRange n k → s ≡ head_line e n k ++ rest → head_of s ≡ passed (sizes e n k)
    unfolding head_of head_line
    head-right h t = rw (edition-of s e n k rest t) (line-right (sheet_first e) s (sizes e) 3 4 n k rest (omega arith) (omega arith) t h)
