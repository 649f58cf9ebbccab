-- A text begins with the state lines of one list of so many states at most. Assumes nothing.
use Rattle.std.specs.Prelude.{ℕ, suc, ◌+◌, ◌≤◌, ◌<◌, ◌≡◌, refl, List, [], ◌∷◌, ◌++◌, length, Some}
use Rattle.columns.specs.PairLaws.{some_both}
use Rattle.std.proofs.Common.{sym, ap₂, ◌∙◌, append_assoc, arith}
use Rattle.lists.specs.AppendLaws.{append-same}
use Rattle.automaton.specs.declared.Edition.{Edition}
use Rattle.format.specs.Format.{State, state_line, state_lines, FlagsRight, StatesRight}
use Rattle.format.proofs.FormatLaws.{state-length}
use Rattle.state_lines.specs.StateLines.{state_line_at}
use Rattle.state_lines.specs.StateLaws.{state-line-of}

-- ONE LINE at the top of a text is one line
module _ (e : Edition) (r t : List ℕ) where
  state-same : (q : ℕ) (z y : State) → q < 1000 → FlagsRight e z → FlagsRight e y → state_line e q z ++ r ≡ state_line e q y ++ t → (z ≡ y) × (r ≡ t)
  state-same q z y hq h g f =
      let s : List ℕ = state_line e q z ++ r in
      let a : state_line_at e s 0 q ≡ Some (z.initial, z.recurring) = state-line-of e s 0 q z r hq h refl in
      let b : state_line_at e s 0 q ≡ Some (y.initial, y.recurring) = state-line-of e s 0 q y t hq g f in
      let (c, d) = some_both (sym a ∙ b) in
      (λ i. record { initial = c i; recurring = d i }, (append-same (state_line e q z) (state_line e q y) r t (state-length e q z ∙ sym (state-length e q y)) f).1)

-- AS MANY LINES are the same lines
pub states-same :
    (e : Edition) (q : ℕ) (zs ys : List State) (r t : List ℕ) → q + length zs ≤ 1000 → length zs ≡ length ys → StatesRight e zs → StatesRight e ys →
    state_lines e q zs ++ r ≡ state_lines e q ys ++ t → (zs ≡ ys) × (r ≡ t)
unfolding state_lines
states-same e q [] [] r t hq c h g f = (refl, f)
states-same e q [] (y ∷ ys) r t hq c h g f = absurd (omega arith)
states-same e q (z ∷ zs) [] r t hq c h g f = absurd (omega arith)
states-same e q (z ∷ zs) (y ∷ ys) r t hq c h g f =
    let l : state_line e q z ++ (state_lines e (suc q) zs ++ r) ≡ state_line e q y ++ (state_lines e (suc q) ys ++ t) = sym (append_assoc (state_line e q z) (state_lines e (suc q) zs) r) ∙ (f ∙ append_assoc (state_line e q y) (state_lines e (suc q) ys) t) in
    let (a, b) = state-same e (state_lines e (suc q) zs ++ r) (state_lines e (suc q) ys ++ t) q z y (omega arith) h.0 g.0 l in
    let (p, o) = states-same e (suc q) zs ys r t (omega arith) (omega arith) h.1 g.1 b in
    (ap₂ ◌∷◌ a p, o)
