-- The transition lines and END: the phase that reads them passes or refuses as Format says, by induction along the lines.
-- Fuel never runs out before the file does. Assumes nothing.
use Rattle.std.proofs.lemmas.Option.{none-some}
use Prim.Native.Nat.{ℕ, zero, suc, ◌+◌, ◌≤◌}
use Rattle.std.specs.Prelude.{◌≡◌, Bool, true, false, eqb, ltb, leb, None, unwrap_or, Option, Some}
use Rattle.std.proofs.Math.Path.{refl, sym, ap}
use Rattle.std.proofs.Common.{ap, subst, ◌∙◌, drop_of_length-le, add-one, zero-add, suc-add}
use Rattle.std.proofs.Math.Bool.{and-eq-true_iff}
use mathlib.Core.List.{List, [], ◌∷◌, ◌++◌, append_assoc}
use Rattle.std.proofs.Math.ListN.{length, get_or, drop}
use borrow.Author.Tests.{eq-eqb, ne_eqb, eqb-true, eqb-false, lt-ltb, ltb-true, le-leb, leb-true}
use native.Mathlib.Omega.{arith}
use Rattle.std.proofs.Math.Nat.{add-zero}
use Rattle.lists.specs.Choice.{choose}
use Rattle.columns.specs.Number.{number_at}
use Rattle.automaton.specs.Automaton.{TransitionSets, transition_sets}
use Rattle.automaton.specs.declared.Edition.{Edition}
use Rattle.automaton.specs.declared.Edition.TheVariants.{StateBased, TransitionBased}
use Rattle.format.specs.Format.{Transition, Withdrawal, transition_line, transition_lines, transition_width, end_line, transition_index, most_mark, TransitionRight, TransitionsRight, least_after, Withdrawn, InForce, AllInForce, EndFault, wrong-transition, withdrawn-letter, no_end, not_last}
use Rattle.format.specs.Numbers.{inserted, table_of, marked_of}
use Rattle.format.specs.Withdrawals.{TellWithdrawn}
use Rattle.format.proofs.FormatLaws.{transition-length, transition-width, transition-behind}
use Rattle.format.proofs.NumbersLaws.{transition, table-where}
use Rattle.transition_lines.specs.TransitionLines.{with_transition, transition_of, marked_one, line_from, transition_line_at, if_in_force, with_marked, end_sets, transitions_at}
use Rattle.frame.specs.Phase.{Phase, refused, passed, and_then}
use Rattle.text.specs.BytesLaws.{stretch-rest}
use Rattle.columns.specs.Line.{Narrow}
use Rattle.columns.specs.Pair.{pair_at}
use Rattle.lists.specs.ChoiceLaws.{test-true}
use Rattle.columns.specs.NumberLaws.{some_number}
use Rattle.columns.specs.PairLaws.{some_pair, three-of, three-is, four-of, four_is}
use Rattle.text.specs.WordLaws.{first_byte}
use Rattle.frame.specs.EndLaws.{end-outcome, end_read, end-missing, end-behind}

-- ONE LINE

-- four numbers that are read as a transition are its numbers, and it is right where its mark is one of the edition's
record Taken (n k least from letter to mark f l t m : ℕ) : Type 0 where
  pub the-from : from ≡ f
  pub the-letter : letter ≡ l
  pub the-to : to ≡ t
  pub the-mark : mark ≡ m
  pub right : (e : Edition) → mark ≤ most_mark e → TransitionRight e n k least (transition f l t m)

-- four numbers that are four others
pub some_four : {x y z w a b c d : ℕ} → ◌≡◌ {A = Option (ℕ × ℕ × ℕ × ℕ)} (Some (x, y, z, w)) (Some (a, b, c, d)) → (x ≡ a) × (y ≡ b) × (z ≡ c) × (w ≡ d)
some_four e =
    let four = λ (o : Option (ℕ × ℕ × ℕ × ℕ)). unwrap_or o (0, 0, 0, 0) in
    let part = λ (f : ℕ × ℕ × ℕ × ℕ → ℕ). ap (λ (o : Option (ℕ × ℕ × ℕ × ℕ)). f (four o)) e in
    (part (λ p. p.0), part (λ p. p.1), part (λ p. p.2), part (λ p. p.3))

module _ (n k least : ℕ) where
  right_of : (e : Edition) (t : Transition) → TransitionRight e n k least t →
      transition_of n k least t.from t.letter t.to t.mark ≡ Some (t.from, t.letter, t.to, t.mark)
  unfolding transition_of
  right_of e t h = simp (lt-ltb _ _ h.from, lt-ltb _ _ h.letter, lt-ltb _ _ h.to, le-leb _ _ h.order)

  right_is : (from letter to mark f l t m : ℕ) → transition_of n k least from letter to mark ≡ Some (f, l, t, m) → Taken n k least from letter to mark f l t m
  unfolding transition_of
  right_is from letter to mark f l t m e =
      let all = test-true (none-some {A = ℕ × ℕ × ℕ × ℕ} (f, l, t, m)) _ (Some (from, letter, to, mark)) e in
      let e1 = (and-eq-true_iff (ltb from n) _).0 all.0 in
      let e2 = (and-eq-true_iff (ltb letter k) _).0 e1.1 in
      let e3 = (and-eq-true_iff (ltb to n) _).0 e2.1 in
      let (a, b, c, d) = some_four all.1 in
      let h1 = ltb-true from n e1.0 in
      let h2 = ltb-true letter k e2.0 in
      let h3 = ltb-true to n e3.0 in
      let h4 = leb-true least (transition_index (transition from letter to mark)) e3.1 in
      record {
        the-from = a;
        the-letter = b;
        the-to = c;
        the-mark = d;
        right = λ e small. record { from = omega arith; letter = omega arith; to = omega arith; order = omega arith; mark = omega arith };
      }

  -- by the edition: SHEET has a number and two, SHT-2 has two numbers and two
  module _ (s : List ℕ) (at : ℕ) where
    pub transition-line-of : (e : Edition) (t : Transition) (rest : List ℕ) → n ≤ 1000 → k ≤ 1000 → TransitionRight e n k least t →
        drop at s ≡ transition_line e t ++ rest → (get_or s at 0 ≡ 84) × (transition_line_at e s at n k least ≡ Some (t.from, t.letter, t.to, t.mark))
    unfolding transition_line_at line_from marked_one transition_line
    transition-line-of StateBased t rest hn hk h f =
        let narrow : Narrow (t.from ∷ t.letter ∷ t.to ∷ []) = (omega (arith, h.from), (omega (arith, h.letter), (omega (arith, h.to), tt))) in
        let (first, one, two) = three-of s at 84 t.from t.letter t.to rest narrow f in
        let zero : t.mark ≡ 0 = omega (arith, h.mark) in
        (first, simp (one, two, zero) (rw zero at (right_of StateBased t h)))
    transition-line-of TransitionBased t rest hn hk h f =
        let narrow : Narrow (t.from ∷ t.letter ∷ t.to ∷ t.mark ∷ []) =
        (omega (arith, h.from), (omega (arith, h.letter), (omega (arith, h.to), (omega (arith, h.mark), tt)))) in
        let (first, one, two, last) = four-of s at 84 t.from t.letter t.to t.mark rest narrow f in
        (first, simp (one, two, last, le-leb _ _ h.mark) (right_of TransitionBased t h))

    transition-line-is : (e : Edition) (f l t m : ℕ) → get_or s at 0 ≡ 84 → transition_line_at e s at n k least ≡ Some (f, l, t, m) →
        TransitionRight e n k least (transition f l t m) × (drop at s ≡ transition_line e (transition f l t m) ++ drop (at + transition_width e) s)
    unfolding transition_line_at line_from marked_one transition_line
    transition-line-is StateBased f l t m first told =
        let no-bad = none-some {A = ℕ × ℕ × ℕ × ℕ} (f, l, t, m) in
        let e1 = some_number no-bad (number_at s (at + 1)) _ told in
        let e2 = some_pair no-bad (pair_at s (at + 4)) _ e1.2 in
        let h = right_is e1.0 e2.0 e2.1 0 f l t m e2.3 in
        (h.right StateBased (omega arith), three-is s at 84 f l t refl first (e1.1 ∙ ap Some h.the-from) (e2.2 ∙ rw (h.the-letter, h.the-to)))
    transition-line-is TransitionBased f l t m first told =
        let no-bad = none-some {A = ℕ × ℕ × ℕ × ℕ} (f, l, t, m) in
        let e1 = some_number no-bad (number_at s (at + 1)) _ told in
        let e2 = some_number no-bad (number_at s (at + 4)) _ e1.2 in
        let e3 = some_pair no-bad (pair_at s (at + 7)) _ e2.2 in
        let e4 = test-true no-bad (leb e3.1 1) _ e3.3 in
        let h = right_is e1.0 e2.0 e3.0 e3.1 f l t m e4.1 in
        let text = four_is s at 84 f l t m refl first (e1.1 ∙ ap Some h.the-from) (e2.1 ∙ ap Some h.the-letter) (e3.2 ∙ rw (h.the-to, h.the-mark)) in
        (h.right TransitionBased (leb-true _ _ e4.0), text)

-- THE TWO TABLES with some transitions more: the second has the marked ones
abbrev pub filled_sets : TransitionSets → List Transition → TransitionSets
filled_sets sets ts = transition_sets (table_of sets.successors ts) (table_of sets.marks (marked_of ts))

filled_more : (sets : TransitionSets) (t : Transition) (ts : List Transition) → filled_sets (with_marked sets t) ts ≡ filled_sets sets (t ∷ ts)
unfolding table_of marked_of
filled_more sets t ts = ap (transition_sets (table_of (inserted sets.successors t) ts)) (sym (table-where t.mark sets.marks t (marked_of ts)))

-- ITS LETTER: the cell of a letter in force is 0, that of a withdrawn one is not
module _ (ws : List Withdrawal) (cells : List ℕ) (tell : TellWithdrawn ws cells) (l : ℕ) where
  force-taken : InForce ws l → eqb (get_or cells l 0) 0 ≡ true
  force-taken f = by (eqb (get_or cells l 0) 0) refl
    where
      by : (b : Bool) → eqb (get_or cells l 0) 0 ≡ b → b ≡ true
      by true e = refl
      by false e = absurd (f (tell.withdrawn l (eqb-false _ _ e)))

  withdrawn-refused : Withdrawn ws l → eqb (get_or cells l 0) 0 ≡ false
  withdrawn-refused w = ne_eqb _ _ (λ e. tell.in-force l e w)

-- THE PHASE: the transitions of the lines that it read

pub record TransitionsPassed (ed : Edition) (ws : List Withdrawal) (s : List ℕ) (n k at least : ℕ) (sets p : TransitionSets) : Type 0 where
  pub transitions : List Transition
  pub right : TransitionsRight ed n k least transitions
  pub in-force : AllInForce ws transitions
  pub text : drop at s ≡ transition_lines ed transitions ++ end_line
  pub filled : p ≡ filled_sets sets transitions

pub record TransitionsRefused (ed : Edition) (ws : List Withdrawal) (s : List ℕ) (n k line at least number at-line : ℕ) : Type 0 where
  pub transitions : List Transition
  pub rest : List ℕ
  pub right : TransitionsRight ed n k least transitions
  pub in-force : AllInForce ws transitions
  pub text : drop at s ≡ transition_lines ed transitions ++ rest
  pub fault : EndFault ed ws n k (least_after least transitions) rest (line + length transitions) number at-line

abbrev pub TransitionsOutcome : Edition → List Withdrawal → List ℕ → ℕ → ℕ → ℕ → ℕ → ℕ → TransitionSets → Phase TransitionSets → Type 0
TransitionsOutcome ed ws s n k line at least sets (refused number at-line) = TransitionsRefused ed ws s n k line at least number at-line
TransitionsOutcome ed ws s n k line at least sets (passed p) = TransitionsPassed ed ws s n k at least sets p

module _ (ed : Edition) (ws : List Withdrawal) (s : List ℕ) (n k line at least : ℕ) (sets : TransitionSets) where
  -- nothing of the phase is read yet
  at_once : {number at-line : ℕ} → EndFault ed ws n k least (drop at s) line number at-line → TransitionsRefused ed ws s n k line at least number at-line
  unfolding transition_lines
  at_once f = record { transitions = []; rest = drop at s; right = tt; in-force = tt; text = refl; fault = rw add-zero f }

  end-due : (get_or s at 0 ≡ 84 → ⊥) → TransitionsOutcome ed ws s n k line at least sets (end_sets s line at sets)
  unfolding transition_lines table_of marked_of
  end-due other =
      end-outcome s at 9 line [] (λ p. TransitionsOutcome ed ws s n k line at least sets (and_then p (λ _. passed sets)))
      (λ none. at_once (no_end (λ f. other (sym (first_byte s at) ∙ f)) none))
      (λ after e some. at_once (subst (EndFault ed ws n k least (drop at s) line 9) (sym (add-one line)) (not_last after e some)))
      (λ e. record { transitions = []; right = tt; in-force = tt; text = e; filled = refl })

  -- a line more in front
  transitions-step :
      (t : Transition) → TransitionRight ed n k least t → InForce ws t.letter → drop at s ≡ transition_line ed t ++ drop (at + transition_width ed) s → (p : Phase TransitionSets) →
      TransitionsOutcome ed ws s n k (line + 1) (at + transition_width ed) (transition_index t + 1) (with_marked sets t) p → TransitionsOutcome ed ws s n k line at least sets p
  unfolding transition_lines
  transitions-step t r i e (passed p) h =
      record { transitions = t ∷ h.transitions; right = (r, h.right); in-force = (i, h.in-force); text = e ∙ rw (h.text, append_assoc); filled = h.filled ∙ filled_more sets t h.transitions }
  transitions-step t r i e (refused number at-line) h =
      let l : line + 1 + length h.transitions ≡ line + suc (length h.transitions) = omega arith in
      record {
        transitions = t ∷ h.transitions;
        rest = h.rest;
        right = (r, h.right);
        in-force = (i, h.in-force);
        text = e ∙ rw (h.text, append_assoc);
        fault = rw l at h.fault;
      }

pub transitions-outcome :
    (ed : Edition) (s : List ℕ) (ws : List Withdrawal) (cells : List ℕ) → TellWithdrawn ws cells → (n k : ℕ) → n ≤ 1000 → k ≤ 1000 →
    (fuel line at least : ℕ) (sets : TransitionSets) → length s ≤ at + fuel →
    TransitionsOutcome ed ws s n k line at least sets (transitions_at ed s cells n k line at least sets fuel)
unfolding transitions_at
transitions-outcome ed s ws cells tell n k hn hk zero line at least sets h =
    let z : drop at s ≡ [] = drop_of_length-le s {i = at} (omega arith) in
    at_once ed ws s n k line at least sets (rw z (no_end (λ e. omega arith) (λ after e. (let o : ◌≡◌ {A = ℕ} 0 1 = cc in omega arith))))
transitions-outcome ed s ws cells tell n k hn hk (suc fuel) line at least sets h =
    by (eqb (get_or s at 0) 84) refl
    (λ t. transitions-outcome ed s ws cells tell n k hn hk fuel (line + 1) (at + transition_width ed) (transition_index t + 1) (with_marked sets t) (omega (arith, transition-width ed)))
  where
    go : Transition → Phase TransitionSets
    go t = transitions_at ed s cells n k (line + 1) (at + transition_width ed) (transition_index t + 1) (with_marked sets t) fuel

    Next : Transition → Type 0
    Next t = TransitionsOutcome ed ws s n k (line + 1) (at + transition_width ed) (transition_index t + 1) (with_marked sets t) (go t)

    letter-by : (t : Transition) → TransitionRight ed n k least t → drop at s ≡ transition_line ed t ++ drop (at + transition_width ed) s → (b : Bool) → eqb (get_or cells t.letter 0) 0 ≡ b → Next t →
        TransitionsOutcome ed ws s n k line at least sets (choose b (go t) (refused 16 line))
    letter-by t r f true e ih = transitions-step ed ws s n k line at least sets t r (tell.in-force t.letter (eqb-true _ _ e)) f (go t) ih
    letter-by t r f false e ih = at_once ed ws s n k line at least sets (withdrawn-letter t (drop (at + transition_width ed) s) r f (tell.withdrawn t.letter (eqb-false _ _ e)))

    line-by : get_or s at 0 ≡ 84 → (w : Option (ℕ × ℕ × ℕ × ℕ)) → transition_line_at ed s at n k least ≡ w → ((t : Transition) → Next t) →
        TransitionsOutcome ed ws s n k line at least sets (with_transition w (λ t. if_in_force cells line t (go t)) (refused 8 line))
    line-by first (Some (from, letter, to, mark)) e ih =
        let f = transition-line-is n k least s at ed from letter to mark first e in
        letter-by (transition from letter to mark) f.0 f.1 (eqb (get_or cells letter 0) 0) refl (ih (transition from letter to mark))
    line-by first None e ih =
        at_once ed ws s n k line at least sets
        (wrong-transition (first_byte s at ∙ first)
        (λ t after r f. none-some {A = ℕ × ℕ × ℕ × ℕ} (t.from, t.letter, t.to, t.mark) (sym e ∙ (transition-line-of n k least s at ed t after hn hk r f).1)))

    by : (b : Bool) → eqb (get_or s at 0) 84 ≡ b → ((t : Transition) → Next t) →
        TransitionsOutcome ed ws s n k line at least sets
        (choose b (with_transition (transition_line_at ed s at n k least) (λ t. if_in_force cells line t (go t)) (refused 8 line)) (end_sets s line at sets))
    by true e ih = line-by (eqb-true _ _ e) (transition_line_at ed s at n k least) refl ih
    by false e ih = end-due ed ws s n k line at least sets (eqb-false _ _ e)

-- The other way round: along lines that are right the phase goes on, and it ends where they do

pub transitions-along :
    (ed : Edition) (s rest : List ℕ) (ws : List Withdrawal) (cells : List ℕ) → TellWithdrawn ws cells → (n k : ℕ) → n ≤ 1000 → k ≤ 1000 →
    (ts : List Transition) (fuel line at least : ℕ) (sets : TransitionSets) → TransitionsRight ed n k least ts → AllInForce ws ts → drop at s ≡ transition_lines ed ts ++ rest →
    transitions_at ed s cells n k line at least sets (length ts + fuel) ≡
    transitions_at ed s cells n k (line + length ts) (at + length (transition_lines ed ts)) (least_after least ts) (filled_sets sets ts) fuel
unfolding transitions_at transition_lines table_of marked_of
transitions-along ed s rest ws cells tell n k hn hk [] fuel line at least sets h i e = simp (zero-add, add-zero)
transitions-along ed s rest ws cells tell n k hn hk (t ∷ ts) fuel line at least sets h i e =
    let e1 : drop at s ≡ transition_line ed t ++ (transition_lines ed ts ++ rest) = rw append_assoc at e in
    let w = transition-line-of n k least s at ed t (transition_lines ed ts ++ rest) hn hk h.0 e1 in
    let e2 : drop (at + transition_width ed) s ≡ transition_lines ed ts ++ rest = rw transition-length at (stretch-rest s at (transition_line ed t) (transition_lines ed ts ++ rest) e1) in
    let go = transitions-along ed s rest ws cells tell n k hn hk ts fuel (line + 1) (at + transition_width ed) (transition_index t + 1) (with_marked sets t) h.1 i.1 e2 in
    let a1 : line + 1 + length ts ≡ line + suc (length ts) = omega arith in
    let a2 = transition-behind ed at t ts in
    rw suc-add (simp (eq-eqb _ _ w.0, w.1, force-taken ws cells tell t.letter i.0) (go ∙ rw (a1, a2, filled_more sets t ts)))

module _ (ed : Edition) (s : List ℕ) (ws : List Withdrawal) (cells : List ℕ) (tell : TellWithdrawn ws cells) (n k fuel line at least : ℕ) (sets : TransitionSets) where
  other-than-t : (after : List ℕ) → drop at s ≡ end_line ++ after → get_or s at 0 ≡ 84 → ⊥
  other-than-t after e f =
      let z : ◌≡◌ {A = ℕ} 69 84 = ap (λ (l : List ℕ). get_or l 0 0) (sym e) ∙ (first_byte s at ∙ f) in
      omega arith

  pub transitions-end : drop at s ≡ end_line → transitions_at ed s cells n k line at least sets (suc fuel) ≡ passed sets
  unfolding transitions_at
  transitions-end e = simp (ne_eqb _ _ (other-than-t [] e)) (ap (λ (p : Phase (List ℕ)). and_then p (λ _. passed sets)) (end_read s at 9 line [] e))

  transition-none : get_or s at 0 ≡ 84 → ((t : Transition) (after : List ℕ) → TransitionRight ed n k least t → drop at s ≡ transition_line ed t ++ after → ⊥) →
      transition_line_at ed s at n k least ≡ None
  transition-none first none = by (transition_line_at ed s at n k least) refl
    where
      by : (w : Option (ℕ × ℕ × ℕ × ℕ)) → transition_line_at ed s at n k least ≡ w → w ≡ None
      by (Some (f, l, t, m)) e = let g = transition-line-is n k least s at ed f l t m first e in absurd (none (transition f l t m) (drop (at + transition_width ed) s) g.0 g.1)
      by None e = refl

  pub transitions-fault :
      n ≤ 1000 → k ≤ 1000 → {number at-line : ℕ} → EndFault ed ws n k least (drop at s) line number at-line →
      transitions_at ed s cells n k line at least sets (suc fuel) ≡ refused number at-line
  unfolding transitions_at
  transitions-fault hn hk (wrong-transition first none) =
      let f : get_or s at 0 ≡ 84 = sym (first_byte s at) ∙ first in
      simp (eq-eqb _ _ f, transition-none f none)
  transitions-fault hn hk (withdrawn-letter t after r e w) =
      let f = transition-line-of n k least s at ed t after hn hk r e in
      simp (eq-eqb _ _ f.0, f.1, withdrawn-refused ws cells tell t.letter w)
  transitions-fault hn hk (no_end other none) = simp (ne_eqb _ _ (λ g. other (first_byte s at ∙ g))) (ap (λ (p : Phase (List ℕ)). and_then p (λ _. passed sets)) (end-missing s at 9 line [] none))
  transitions-fault hn hk (not_last after e some) =
      simp (ne_eqb _ _ (other-than-t after e)) (ap (λ (p : Phase (List ℕ)). and_then p (λ _. passed sets)) (end-behind s at 9 line [] after e some ∙ ap (refused 9) (add-one line)))
