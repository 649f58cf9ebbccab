-- The withdrawal lines: the phase that reads them passes or refuses as Format says, by induction along the lines.
-- Fuel never runs out before the file does. Assumes nothing.
use Rattle.std.proofs.lemmas.Option.{none-some}
use Prim.Native.Nat.{ℕ, zero, suc, ◌+◌, ◌≤◌}
use Rattle.std.specs.Prelude.{◌≡◌, Bool, true, false, List, [], ◌∷◌, ◌++◌, length, set, eqb, ltb, leb, None, Option, Some}
use Rattle.std.proofs.Math.Path.{refl, sym}
use Rattle.std.proofs.Common.{◌∙◌, append_assoc, zero-add, add-zero, suc-add}
use Rattle.std.proofs.Math.Bool.{and-eq-true_iff}
use Rattle.std.proofs.Math.ListN.{get_or, drop}
use borrow.Author.Tests.{eq-eqb, ne_eqb, eqb-true, eqb-false, lt-ltb, ltb-true, le-leb, leb-true}
use native.Mathlib.Omega.{arith}
use Rattle.lists.specs.Choice.{choose}
use Rattle.lists.specs.ChoiceLaws.{test-true}
use Rattle.text.specs.BytesLaws.{stretch-rest}
use Rattle.text.specs.WordLaws.{within, first_byte}
use Rattle.columns.specs.Line.{Narrow}
use Rattle.columns.specs.Pair.{pair_at}
use Rattle.columns.specs.PairLaws.{some_both, some_pair, two-of, two_is}
use Rattle.format.specs.Format.{Withdrawal, withdrawal_line, withdrawal_lines, WithdrawalRight, WithdrawalsRight, letter_after}
use Rattle.format.specs.Withdrawals.{withdrawn_by, withdrawn_in}
use Rattle.format.proofs.FormatLaws.{withdrawal-length, withdrawal-behind}
use Rattle.frame.specs.Phase.{Phase, refused, passed}
use Rattle.withdrawal_lines.specs.WithdrawalLines.{Superseded, superseded, withdrawal_of, withdrawal_line_at, with_withdrawal, withdrawals_at}

-- ONE LINE

module _ (k least : ℕ) where
  right_of : (w : Withdrawal) → WithdrawalRight k least w → withdrawal_of k least w.letter w.by ≡ Some (w.letter, w.by)
  unfolding withdrawal_of
  right_of w h = simp (le-leb _ _ h.order, lt-ltb _ _ h.larger, lt-ltb _ _ h.letter)

  right_is : (letter by l m : ℕ) → withdrawal_of k least letter by ≡ Some (l, m) → WithdrawalRight k least (withdrawn_by l m) × (letter ≡ l) × (by ≡ m)
  unfolding withdrawal_of
  right_is letter by l m e =
      let all = test-true (none-some {A = ℕ × ℕ} (l, m)) _ (Some (letter, by)) e in
      let e1 = (and-eq-true_iff (leb least letter) _).0 all.0 in
      let e2 = (and-eq-true_iff (ltb letter by) _).0 e1.1 in
      let (a, b) = some_both all.1 in
      let h1 = leb-true least letter e1.0 in
      let h2 = ltb-true letter by e2.0 in
      let h3 = ltb-true by k e2.1 in
      (record { order = omega arith; larger = omega arith; letter = omega arith }, a, b)

  module _ (s : List ℕ) (at : ℕ) where
    pub withdrawal-line-of : (w : Withdrawal) (rest : List ℕ) → k ≤ 1000 → WithdrawalRight k least w → drop at s ≡ withdrawal_line w ++ rest →
        (get_or s at 0 ≡ 87) × (withdrawal_line_at s at k least ≡ Some (w.letter, w.by))
    unfolding withdrawal_line_at withdrawal_line
    withdrawal-line-of w rest hk h e =
        let narrow : Narrow (w.letter ∷ w.by ∷ []) = (omega (arith, h.larger, h.letter), (omega (arith, h.letter), tt)) in
        let (first, both) = two-of s at 87 w.letter w.by rest narrow e in
        (first, simp both (right_of w h))

    withdrawal-line-is : (l m : ℕ) → get_or s at 0 ≡ 87 → withdrawal_line_at s at k least ≡ Some (l, m) →
        WithdrawalRight k least (withdrawn_by l m) × (drop at s ≡ withdrawal_line (withdrawn_by l m) ++ drop (at + 8) s)
    unfolding withdrawal_line_at withdrawal_line
    withdrawal-line-is l m first e =
        let e1 = some_pair (none-some {A = ℕ × ℕ} (l, m)) (pair_at s (at + 1)) _ e in
        let h = right_is e1.0 e1.1 l m e1.3 in
        (h.0, two_is s at 87 l m refl first (e1.2 ∙ rw (h.1, h.2)))

-- THE PHASE: the withdrawals of the lines that it read

pub record WithdrawalsPassed (s : List ℕ) (k line at least : ℕ) (cells : List ℕ) (p : Superseded) : Type 0 where
  pub withdrawals : List Withdrawal
  pub right : WithdrawalsRight k least withdrawals
  pub text : drop at s ≡ withdrawal_lines withdrawals ++ drop p.at s
  pub next : p.line ≡ line + length withdrawals
  pub filled : p.cells ≡ withdrawn_in cells withdrawals
  pub other : get_or s p.at 0 ≡ 87 → ⊥

pub record WithdrawalsRefused (s : List ℕ) (k line at least number at-line : ℕ) : Type 0 where
  pub withdrawals : List Withdrawal
  pub rest : List ℕ
  pub right : WithdrawalsRight k least withdrawals
  pub text : drop at s ≡ withdrawal_lines withdrawals ++ rest
  pub fifteen : number ≡ 15
  pub here : at-line ≡ line + length withdrawals
  pub opens : get_or rest 0 0 ≡ 87
  pub none : (w : Withdrawal) (after : List ℕ) → WithdrawalRight k (letter_after least withdrawals) w → rest ≡ withdrawal_line w ++ after → ⊥

abbrev pub WithdrawalsOutcome : List ℕ → ℕ → ℕ → ℕ → ℕ → List ℕ → Phase Superseded → Type 0
WithdrawalsOutcome s k line at least cells (refused number at-line) = WithdrawalsRefused s k line at least number at-line
WithdrawalsOutcome s k line at least cells (passed p) = WithdrawalsPassed s k line at least cells p

module _ (s : List ℕ) (k line at least : ℕ) (cells : List ℕ) where
  -- no line of them stands there
  none-there : (get_or s at 0 ≡ 87 → ⊥) → WithdrawalsPassed s k line at least cells (superseded cells at line)
  unfolding withdrawal_lines withdrawn_in
  none-there other = record { withdrawals = []; right = tt; text = refl; next = sym (add-zero line); filled = refl; other = other }

  -- a line that begins with W, and is none of them
  wrong-there : get_or s at 0 ≡ 87 → ((w : Withdrawal) (after : List ℕ) → WithdrawalRight k least w → drop at s ≡ withdrawal_line w ++ after → ⊥) →
      WithdrawalsRefused s k line at least 15 line
  unfolding withdrawal_lines
  wrong-there first none = record {
    withdrawals = [];
    rest = drop at s;
    right = tt;
    text = refl;
    fifteen = refl;
    here = sym (add-zero line);
    opens = first_byte s at ∙ first;
    none = none;
  }

-- a line more in front
withdrawals-step :
    (s : List ℕ) (k line at least : ℕ) (cells : List ℕ) (w : Withdrawal) → WithdrawalRight k least w → drop at s ≡ withdrawal_line w ++ drop (at + 8) s → (p : Phase Superseded) →
    WithdrawalsOutcome s k (line + 1) (at + 8) (w.letter + 1) (set cells w.letter w.by) p → WithdrawalsOutcome s k line at least cells p
unfolding withdrawal_lines withdrawn_in
withdrawals-step s k line at least cells w r e (passed p) h =
    let l : line + 1 + length h.withdrawals ≡ line + suc (length h.withdrawals) = omega arith in
    record { withdrawals = w ∷ h.withdrawals; right = (r, h.right); text = e ∙ rw (h.text, append_assoc); next = h.next ∙ l; filled = h.filled; other = h.other }
withdrawals-step s k line at least cells w r e (refused number at-line) h =
    let l : line + 1 + length h.withdrawals ≡ line + suc (length h.withdrawals) = omega arith in
    record {
      withdrawals = w ∷ h.withdrawals;
      rest = h.rest;
      right = (r, h.right);
      text = e ∙ rw (h.text, append_assoc);
      fifteen = h.fifteen;
      here = h.here ∙ l;
      opens = h.opens;
      none = h.none;
    }

pub withdrawals-outcome :
    (s : List ℕ) (k : ℕ) → k ≤ 1000 → (fuel line at least : ℕ) (cells : List ℕ) → length s ≤ at + fuel →
    WithdrawalsOutcome s k line at least cells (withdrawals_at s k line at least cells fuel)
unfolding withdrawals_at
withdrawals-outcome s k hk zero line at least cells h = none-there s k line at least cells (λ e. omega (arith, within s at (omega arith)))
withdrawals-outcome s k hk (suc fuel) line at least cells h =
    by (eqb (get_or s at 0) 87) refl (λ w. withdrawals-outcome s k hk fuel (line + 1) (at + 8) (w.letter + 1) (set cells w.letter w.by) (omega arith))
  where
    go : Withdrawal → Phase Superseded
    go w = withdrawals_at s k (line + 1) (at + 8) (w.letter + 1) (set cells w.letter w.by) fuel

    Next : Withdrawal → Type 0
    Next w = WithdrawalsOutcome s k (line + 1) (at + 8) (w.letter + 1) (set cells w.letter w.by) (go w)

    line-by : get_or s at 0 ≡ 87 → (v : Option (ℕ × ℕ)) → withdrawal_line_at s at k least ≡ v → ((w : Withdrawal) → Next w) →
        WithdrawalsOutcome s k line at least cells (with_withdrawal v go (refused 15 line))
    line-by first (Some (letter, by)) e ih =
        let f = withdrawal-line-is k least s at letter by first e in
        withdrawals-step s k line at least cells (withdrawn_by letter by) f.0 f.1 (go (withdrawn_by letter by)) (ih (withdrawn_by letter by))
    line-by first None e ih =
        wrong-there s k line at least cells first
        (λ w after r f. none-some {A = ℕ × ℕ} (w.letter, w.by) (sym e ∙ (withdrawal-line-of k least s at w after hk r f).1))

    by : (b : Bool) → eqb (get_or s at 0) 87 ≡ b → ((w : Withdrawal) → Next w) →
        WithdrawalsOutcome s k line at least cells
        (choose b (with_withdrawal (withdrawal_line_at s at k least) go (refused 15 line)) (passed (superseded cells at line)))
    by true e ih = line-by (eqb-true _ _ e) (withdrawal_line_at s at k least) refl ih
    by false e ih = none-there s k line at least cells (eqb-false _ _ e)

-- The other way round: along lines that are right the phase goes on, and it ends where they do

pub withdrawals-along :
    (s rest : List ℕ) (k : ℕ) → k ≤ 1000 → (ws : List Withdrawal) (fuel line at least : ℕ) (cells : List ℕ) →
    WithdrawalsRight k least ws → drop at s ≡ withdrawal_lines ws ++ rest →
    withdrawals_at s k line at least cells (length ws + fuel) ≡
    withdrawals_at s k (line + length ws) (at + length (withdrawal_lines ws)) (letter_after least ws) (withdrawn_in cells ws) fuel
unfolding withdrawals_at withdrawal_lines withdrawn_in
withdrawals-along s rest k hk [] fuel line at least cells h e = simp (zero-add, add-zero)
withdrawals-along s rest k hk (w ∷ ws) fuel line at least cells h e =
    let e1 : drop at s ≡ withdrawal_line w ++ (withdrawal_lines ws ++ rest) = rw append_assoc at e in
    let v = withdrawal-line-of k least s at w (withdrawal_lines ws ++ rest) hk h.0 e1 in
    let e2 : drop (at + 8) s ≡ withdrawal_lines ws ++ rest = rw withdrawal-length at (stretch-rest s at (withdrawal_line w) (withdrawal_lines ws ++ rest) e1) in
    let go = withdrawals-along s rest k hk ws fuel (line + 1) (at + 8) (w.letter + 1) (set cells w.letter w.by) h.1 e2 in
    let a1 : line + 1 + length ws ≡ line + suc (length ws) = omega arith in
    let a2 = withdrawal-behind at w ws in
    rw suc-add (simp (eq-eqb _ _ v.0, v.1) (go ∙ rw (a1, a2)))

-- there are no more of them than their lines have bytes
pub withdrawals-few : (ws : List Withdrawal) → length ws ≤ length (withdrawal_lines ws)
unfolding withdrawal_lines
withdrawals-few [] = omega arith
withdrawals-few (w ∷ ws) = omega (arith, withdrawal-behind 0 w ws, withdrawals-few ws)

module _ (s : List ℕ) (k fuel line at least : ℕ) (cells : List ℕ) where
  -- any other line ends them
  pub withdrawals-end : (get_or s at 0 ≡ 87 → ⊥) → withdrawals_at s k line at least cells fuel ≡ passed (superseded cells at line)
  unfolding withdrawals_at
  withdrawals-end other = by fuel
    where
      by : (f : ℕ) → withdrawals_at s k line at least cells f ≡ passed (superseded cells at line)
      by zero = refl
      by (suc f) = simp (ne_eqb _ _ other)

  withdrawal-none : get_or s at 0 ≡ 87 → ((w : Withdrawal) (after : List ℕ) → WithdrawalRight k least w → drop at s ≡ withdrawal_line w ++ after → ⊥) →
      withdrawal_line_at s at k least ≡ None
  withdrawal-none first none = by (withdrawal_line_at s at k least) refl
    where
      by : (v : Option (ℕ × ℕ)) → withdrawal_line_at s at k least ≡ v → v ≡ None
      by (Some (l, m)) e = let g = withdrawal-line-is k least s at l m first e in absurd (none (withdrawn_by l m) (drop (at + 8) s) g.0 g.1)
      by None e = refl

  pub withdrawals-fault : get_or (drop at s) 0 0 ≡ 87 → ((w : Withdrawal) (after : List ℕ) → WithdrawalRight k least w → drop at s ≡ withdrawal_line w ++ after → ⊥) →
      withdrawals_at s k line at least cells (suc fuel) ≡ refused 15 line
  unfolding withdrawals_at
  withdrawals-fault first none =
      let f : get_or s at 0 ≡ 87 = sym (first_byte s at) ∙ first in
      simp (eq-eqb _ _ f, withdrawal-none f none)
