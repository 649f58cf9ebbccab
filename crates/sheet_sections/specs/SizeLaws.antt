-- How long a sheet is whose lines answer yes: no longer than the longest text of its edition, and so than question 2 allows. Assumes nothing.
use Rattle.std.specs.Prelude.{ℕ, suc, ◌+◌, ◌*◌, ◌≤◌, ◌<◌, ◌≡◌, refl, List, [], ◌∷◌, ◌++◌, length}
use Rattle.std.proofs.Common.{inl, inr, arith, length-append}
use Rattle.std.proofs.Math.Decide.{dec_lt}
use Rattle.automaton.specs.Graph.{InRange}
use Rattle.automaton.specs.declared.Edition.{Edition}
use Rattle.automaton.specs.declared.Edition.TheVariants.{StateBased, TransitionBased}
use Rattle.format.specs.Format.{Transition, Withdrawal, Sheet, state_width, transition_width, name_lines, lines, end_line, NamesRight, WithdrawalsRight, Withdrawn, transition_index, TransitionsRight, AllInForce, Right, most_sheet}
use Rattle.format.specs.Written.{most_transitions, longest_text}
use Rattle.format.proofs.FormatLaws.{head-length, name-length, longest-most, lines-parted}
use Rattle.sheet_sections.specs.LengthLaws.{withdrawals-length, states-length, transitions-length}

-- the line of a name has at most 30 bytes
names-most : (xs earlier : List (List ℕ)) (l : ℕ) → NamesRight earlier xs → length (name_lines l xs) ≤ 30 * length xs
unfolding name_lines
names-most [] earlier l r = omega arith
names-most (x ∷ xs) earlier l r =
    simp (length-append, name-length) (omega (arith, r.0.most, names-most xs (earlier ++ (x ∷ [])) (suc l) r.2))

module _ (e : Edition) (n k : ℕ) (range : InRange n k) where
  -- transitions that are right, from place i on, are at most as many as places
  pub transitions-most : (i least : ℕ) (ts : List Transition) → i ≤ most_transitions → i ≤ least → TransitionsRight e n k least ts → i + length ts ≤ most_transitions
  transitions-most i least [] h l right = omega arith
  transitions-most i least (t ∷ ts) h l right =
      let f = right.0.from in
      let g = right.0.letter in
      let d = right.0.to in
      let o = right.0.order in
      omega (arith, transitions-most (transition_index t + 1) (transition_index t + 1) ts (omega arith) (omega arith) right.1)

  -- so are withdrawals and transitions together: at the first place of a withdrawn letter, from state 0 to itself, stands no transition
  module _ (all : List Withdrawal) where
    places-most : (i letter least : ℕ) (ws : List Withdrawal) (ts : List Transition) → i ≤ most_transitions → i ≤ 16 * letter → i ≤ least
        → WithdrawalsRight k letter ws → TransitionsRight e n k least ts → ((l : ℕ) → Withdrawn ws l → Withdrawn all l) → AllInForce all ts
        → i + (length ws + length ts) ≤ most_transitions
    places-most i letter least [] ts h a b right lies out force = omega (arith, transitions-most i least ts h b lies)
    places-most i letter least (w ∷ ws) [] h a b right lies out force =
        let o = right.0.order in
        let g = right.0.larger in
        let d = right.0.letter in
        let here = 16 * w.letter + 1 in
        omega (arith, places-most here (w.letter + 1) here ws [] (omega arith) (omega arith) (omega arith) right.1 tt (λ l v. out l (v.0, inr v.1)) tt)
    places-most i letter least (w ∷ ws) (t ∷ ts) h a b right lies out force =
        by (dec_lt (transition_index t) (16 * w.letter))
        (λ p q. places-most (transition_index t + 1) w.letter (transition_index t + 1) (w ∷ ws) ts p q (omega arith) from-w lies.1 out force.1)
        (λ p q. places-most (16 * w.letter + 1) (w.letter + 1) (transition_index t) ws (t ∷ ts) p (omega arith) q right.1 from-t (λ l v. out l (v.0, inr v.1)) force)
      where
        from-w : WithdrawalsRight k w.letter (w ∷ ws)
        from-w = (record { order = omega arith; larger = right.0.larger; letter = right.0.letter }, right.1)

        from-t : TransitionsRight e n k (transition_index t) (t ∷ ts)
        from-t = (record { from = lies.0.from; letter = lies.0.letter; to = lies.0.to; order = omega arith; mark = lies.0.mark }, lies.1)

        by : Dec (transition_index t < 16 * w.letter)
            → (transition_index t + 1 ≤ most_transitions → transition_index t + 1 ≤ 16 * w.letter → transition_index t + 1 + (suc (length ws) + length ts) ≤ most_transitions)
            → (16 * w.letter + 1 ≤ most_transitions → 16 * w.letter + 1 ≤ transition_index t → 16 * w.letter + 1 + (length ws + suc (length ts)) ≤ most_transitions)
            → i + (suc (length ws) + suc (length ts)) ≤ most_transitions
        by (yes l) earlier later =
            let o = lies.0.order in
            let g = right.0.larger in
            let d = right.0.letter in
            omega (arith, earlier (omega arith) (omega arith))
        by (no l) earlier later =
            let o = right.0.order in
            let g = right.0.larger in
            let d = right.0.letter in
            let f = lies.0.letter in
            let r = lies.0.to in
            let other : w.letter ≡ t.letter → ⊥ = λ s. force.0 (out t.letter (w.by, inl (s, refl))) in
            let behind : 16 * w.letter + 1 ≤ transition_index t = omega (arith, other) in
            omega (arith, later (omega arith) behind)

-- the lines of n states, and of withdrawals and transitions for which there is room; the others have 256 bytes at most
lines-most : (e : Edition) (n ws ts : ℕ) → n ≤ 16 → ws + ts ≤ most_transitions → 256 + (8 * ws + (state_width e * n + transition_width e * ts)) ≤ longest_text e
lines-most StateBased n ws ts h room = omega arith
lines-most TransitionBased n ws ts h room = omega arith

module _ (σ : Sheet) (right : Right σ) (all-names : length σ.names ≡ σ.k) (all-states : length σ.states ≡ σ.n) where
  -- HOW LONG A SHEET IS: no longer with withdrawals, which take transitions away
  pub right-longest : length (lines σ ++ end_line) ≤ longest_text σ.edition
  right-longest =
      let range = right.range in
      let names = names-most σ.names [] 0 right.names in
      let withdrawals = withdrawals-length σ.withdrawals in
      let states = states-length σ.edition 0 σ.states in
      let transitions = transitions-length σ.edition σ.transitions in
      let room = places-most σ.edition σ.n σ.k range σ.withdrawals 0 0 0 σ.withdrawals σ.transitions (omega arith) (omega arith) (omega arith)
      right.withdrawals right.transitions (λ l v. v) right.in-force in
      let most = lines-most σ.edition (length σ.states) (length σ.withdrawals) (length σ.transitions) (omega arith) (omega arith) in
      rw (lines-parted σ end_line) (simp (length-append, head-length) (omega arith))

  -- question 2 refuses no file that answers the later ones yes
  pub right-size : length (lines σ ++ end_line) ≤ most_sheet
  right-size = omega (arith, right-longest, longest-most σ.edition)
