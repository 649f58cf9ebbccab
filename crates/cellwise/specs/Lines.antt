-- A line of numbers that is stored part by part: its last two numbers, a number ahead of others, what it opens with. Assumes nothing.
use Rattle.std.specs.Prelude.{ℕ, ◌+◌, ◌≡◌, List, [], ◌∷◌, length, set}
use Rattle.std.proofs.Common.{sym, ◌∙◌, arith, add-zero}
use Rattle.std.proofs.lemmas.List.Edits.{sets}
use Rattle.text.specs.Bytes.{lf}
use Rattle.columns.specs.Column.{column}
use Rattle.columns.specs.ColumnLaws.{column-length}
use Rattle.columns.specs.Line.{fields, numbers_line}
use Rattle.columns.specs.LineLaws.{numbers-stored}
use Rattle.lists.specs.StoreLaws.{sets-append, sets-part}
use Rattle.automaton.specs.declared.Edition.{Edition}
use Rattle.automaton.specs.declared.Edition.TheVariants.{StateBased, TransitionBased}
use Rattle.format.specs.Format.{sheet_word, head_line}

-- the last two numbers of a line
pub last_stored : (out : List ℕ) (at a b : ℕ) {o₁ o₂ : List ℕ} →
    o₁ ≡ sets out at (column 3 a) → o₂ ≡ sets o₁ (at + 3) (column 3 b) → set o₂ (at + 6) lf ≡ sets out at (fields (a ∷ b ∷ []) (lf ∷ []))
last_stored out at a b e₁ e₂ =
    let six : at + 3 + 3 ≡ at + 6 = omega arith in
    rw (e₂, e₁) (rw (add-zero, six) at (numbers-stored out at [] (a ∷ b ∷ [])))

-- numbers ahead of others, behind the byte of their kind, or behind a word
pub ahead-stored : (out : List ℕ) (at behind v : ℕ) (vs : List ℕ) {o₁ o₂ : List ℕ} → at + 3 ≡ behind →
    o₁ ≡ sets out at (column 3 v) → o₂ ≡ sets o₁ behind (fields vs (lf ∷ [])) → o₂ ≡ sets out at (fields (v ∷ vs) (lf ∷ []))
ahead-stored out at behind v vs p e₁ e₂ =
    let q : at + length (column 3 v) ≡ behind = omega (arith, column-length 3 v) in
    rw (e₂, e₁) (sym (sets-part (column 3 v) (fields vs (lf ∷ [])) out at behind q))

pub kind-stored : (out : List ℕ) (at kind : ℕ) (vs : List ℕ) {o : List ℕ} →
    o ≡ sets (set out at kind) (at + 1) (fields vs (lf ∷ [])) → o ≡ sets out at (numbers_line (kind ∷ []) vs)
kind-stored out at kind vs e = e ∙ sym (sets-append (kind ∷ []) (fields vs (lf ∷ [])) out at)

pub head-stored : (e : Edition) (out : List ℕ) (at n k : ℕ) {o₁ o₂ : List ℕ} →
    o₁ ≡ sets out at (sheet_word e) → o₂ ≡ sets o₁ (at + 5) (fields (n ∷ k ∷ []) (lf ∷ [])) → o₂ ≡ sets out at (head_line e n k)
unfolding head_line
head-stored StateBased out at n k e₁ e₂ = rw (e₂, e₁) (sym (sets-append (sheet_word StateBased) (fields (n ∷ k ∷ []) (lf ∷ [])) out at))
head-stored TransitionBased out at n k e₁ e₂ = rw (e₂, e₁) (sym (sets-append (sheet_word TransitionBased) (fields (n ∷ k ∷ []) (lf ∷ [])) out at))
