-- A text is the transition lines of one list of transitions, with END behind them, at most. Assumes nothing.
use Rattle.std.specs.Prelude.{ℕ, ◌+◌, ◌≤◌, ◌≡◌, refl, List, [], ◌∷◌, ◌++◌, get_or, Some}
use Rattle.std.proofs.Common.{sym, ap, ap₂, ◌∙◌, append_assoc, arith}
use Rattle.lists.specs.AppendLaws.{append-same}
use Rattle.automaton.specs.declared.Edition.{Edition}
use Rattle.format.specs.Format.{Transition, transition_line, transition_lines, end_line, transition_index, TransitionRight, TransitionsRight}
use Rattle.format.proofs.NumbersLaws.{loosened}
use Rattle.format.proofs.FormatLaws.{transition-length}
use Rattle.transition_lines.specs.TransitionLines.{transition_line_at}
use Rattle.transition_lines.specs.TransitionLaws.{some_four, transition-line-of}

-- ONE LINE at the top of a text is one line
module _ (ed : Edition) (r t : List ℕ) where
  transition-same : (n k : ℕ) (u v : Transition) → n ≤ 1000 → k ≤ 1000 → TransitionRight ed n k 0 u → TransitionRight ed n k 0 v → transition_line ed u ++ r ≡ transition_line ed v ++ t → (u ≡ v) × (r ≡ t)
  transition-same n k u v hn hk h g e =
      let s : List ℕ = transition_line ed u ++ r in
      let a : transition_line_at ed s 0 n k 0 ≡ Some (u.from, u.letter, u.to, u.mark) = (transition-line-of n k 0 s 0 ed u r hn hk h refl).1 in
      let b : transition_line_at ed s 0 n k 0 ≡ Some (v.from, v.letter, v.to, v.mark) = (transition-line-of n k 0 s 0 ed v t hn hk g e).1 in
      let (c, d, f, m) = some_four (sym a ∙ b) in
      (λ i. record { from = c i; letter = d i; to = f i; mark = m i }, (append-same (transition_line ed u) (transition_line ed v) r t (transition-length ed u ∙ sym (transition-length ed v)) e).1)

-- a line that begins with T is not END
end-is-no-transition : (ed : Edition) (u : Transition) (rest : List ℕ) → end_line ≡ transition_line ed u ++ rest → ⊥
unfolding transition_line
end-is-no-transition ed u rest e = let z : ◌≡◌ {A = ℕ} 69 84 = ap (λ (l : List ℕ). get_or l 0 0) e in omega arith

-- ALL LINES, up to END, are the same lines
pub transitions-same :
    (ed : Edition) (n k : ℕ) → n ≤ 1000 → k ≤ 1000 → (least other : ℕ) (us vs : List Transition) → TransitionsRight ed n k least us → TransitionsRight ed n k other vs →
    transition_lines ed us ++ end_line ≡ transition_lines ed vs ++ end_line → us ≡ vs
unfolding transition_lines
transitions-same ed n k hn hk least other [] [] h g e = refl
transitions-same ed n k hn hk least other [] (v ∷ vs) h g e = absurd (end-is-no-transition ed v (transition_lines ed vs ++ end_line) (e ∙ append_assoc (transition_line ed v) (transition_lines ed vs) end_line))
transitions-same ed n k hn hk least other (u ∷ us) [] h g e = absurd (end-is-no-transition ed u (transition_lines ed us ++ end_line) (sym e ∙ append_assoc (transition_line ed u) (transition_lines ed us) end_line))
transitions-same ed n k hn hk least other (u ∷ us) (v ∷ vs) h g e =
    let f : transition_line ed u ++ (transition_lines ed us ++ end_line) ≡ transition_line ed v ++ (transition_lines ed vs ++ end_line) = sym (append_assoc (transition_line ed u) (transition_lines ed us) end_line) ∙ (e ∙ append_assoc (transition_line ed v) (transition_lines ed vs) end_line) in
    let (a, b) = transition-same ed (transition_lines ed us ++ end_line) (transition_lines ed vs ++ end_line) n k u v hn hk (loosened h.0) (loosened g.0) f in
    ap₂ ◌∷◌ a (transitions-same ed n k hn hk (transition_index u + 1) (transition_index v + 1) us vs h.1 g.1 b)
