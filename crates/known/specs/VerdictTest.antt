-- Document 01, "The verdict", as a test that computes.
use Rattle.std.specs.Prelude.{ℕ, zero, suc, ◌+◌, ◌*◌, ◌-◌, ◌%◌, Bool, not, ◌&&◌, List, [], ◌∷◌, ◌++◌, eqb, ltb}
use Rattle.finite.specs.Least.{lowest}
use Rattle.automaton.specs.Automaton.{Automaton}
use Rattle.tuple.specs.Step.{Tuple, colour_entered}
use Rattle.numbering.specs.Explore.{tuple_number}
use Rattle.passes.specs.declared.Answer.{Answer}
use Rattle.passes.specs.declared.Answer.TheVariants.{Yes, No}
use Rattle.passes.specs.declared.Verdict.{Verdict}
use Rattle.passes.specs.Passes.{pass_end}
use Rattle.known.specs.Below.{all}

-- the tuples at the ends of the first b passes, the lead-in's end first
unfoldable pub ends : Automaton → (ℕ → ℕ) → ℕ → ℕ → ℕ → List Tuple
ends A w m c zero = []
ends A w m c (suc b) = ends A w m c b ++ (pass_end A w m c b ∷ [])

-- the earlier end that pass b's is equal to; b where there is none
unfoldable pub earlier_of : Automaton → (ℕ → ℕ) → ℕ → ℕ → ℕ → ℕ
earlier_of A w m c b = tuple_number (pass_end A w m c b) (ends A w m c b)

-- pass b is the first whose end equals an earlier one
unfoldable pub is_repeat : Automaton → (ℕ → ℕ) → ℕ → ℕ → ℕ → Bool
is_repeat A w m c b = ltb (earlier_of A w m c b) b && all b (λ j. not (ltb (earlier_of A w m c j) j))

-- the least colour entered after t, up to u
unfoldable pub least_entered : Automaton → (ℕ → ℕ) → ℕ → ℕ → ℕ
least_entered A w t u = lowest (colour_entered A w) t (u - suc t)

-- the answer goes by the least colour
unfoldable pub is_answer : ℕ → Answer → Bool
is_answer least Yes = eqb (least % 2) 0
is_answer least No = eqb (least % 2) 1

-- v is the least colour that is entered after t and up to u
unfoldable pub is_least : Automaton → (ℕ → ℕ) → ℕ → ℕ → ℕ → Bool
is_least A w t u least = ltb t u && eqb (least_entered A w t u) least

-- a verdict is the definition's
unfoldable pub is_verdict : Automaton → (ℕ → ℕ) → ℕ → ℕ → Verdict → Bool
is_verdict A w m c z =
    is_repeat A w m c z.passes
    && (is_least A w (m + earlier_of A w m c z.passes * c) (m + z.passes * c) z.least
    && is_answer z.least z.answer)
