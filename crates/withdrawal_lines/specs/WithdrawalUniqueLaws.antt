-- A text begins with the withdrawal lines of one list of withdrawals at most, where no such line stands behind them. Assumes nothing.
use Rattle.std.specs.Prelude.{ℕ, ◌+◌, ◌≤◌, ◌≡◌, refl, List, [], ◌∷◌, ◌++◌, get_or, Some}
use Rattle.columns.specs.PairLaws.{some_both}
use Rattle.std.proofs.Common.{sym, ap, ap₂, ◌∙◌, append_assoc, arith}
use Rattle.lists.specs.AppendLaws.{append-same}
use Rattle.format.specs.Format.{Withdrawal, withdrawal_line, withdrawal_lines, WithdrawalRight, WithdrawalsRight}
use Rattle.format.proofs.FormatLaws.{withdrawal-length}
use Rattle.withdrawal_lines.specs.WithdrawalLines.{withdrawal_line_at}
use Rattle.withdrawal_lines.specs.WithdrawalLaws.{withdrawal-line-of}

-- any order is that of a first line
loosened : {k least : ℕ} {w : Withdrawal} → WithdrawalRight k least w → WithdrawalRight k 0 w
loosened h = record { order = omega arith; larger = h.larger; letter = h.letter }

-- ONE LINE at the top of a text is one line
module _ (r t : List ℕ) where
  withdrawal-same : (k : ℕ) (u v : Withdrawal) → k ≤ 1000 → WithdrawalRight k 0 u → WithdrawalRight k 0 v → withdrawal_line u ++ r ≡ withdrawal_line v ++ t → (u ≡ v) × (r ≡ t)
  withdrawal-same k u v hk h g e =
      let s : List ℕ = withdrawal_line u ++ r in
      let a : withdrawal_line_at s 0 k 0 ≡ Some (u.letter, u.by) = (withdrawal-line-of k 0 s 0 u r hk h refl).1 in
      let b : withdrawal_line_at s 0 k 0 ≡ Some (v.letter, v.by) = (withdrawal-line-of k 0 s 0 v t hk g e).1 in
      let (c, d) = some_both (sym a ∙ b) in
      (λ i. record { letter = c i; by = d i }, (append-same (withdrawal_line u) (withdrawal_line v) r t (withdrawal-length u ∙ sym (withdrawal-length v)) e).1)

-- a withdrawal line begins with W
begins : (u : Withdrawal) (us : List Withdrawal) (r t : List ℕ) → t ≡ withdrawal_lines (u ∷ us) ++ r → get_or t 0 0 ≡ 87
unfolding withdrawal_line withdrawal_lines
begins u us r t e = ap (λ (l : List ℕ). get_or l 0 0) e

-- ALL LINES, up to any other line, are the same lines
pub withdrawals-same :
    (k : ℕ) → k ≤ 1000 → (least other : ℕ) (us vs : List Withdrawal) (r t : List ℕ) → WithdrawalsRight k least us → WithdrawalsRight k other vs →
    (get_or r 0 0 ≡ 87 → ⊥) → (get_or t 0 0 ≡ 87 → ⊥) → withdrawal_lines us ++ r ≡ withdrawal_lines vs ++ t → (us ≡ vs) × (r ≡ t)
unfolding withdrawal_lines
withdrawals-same k hk least other [] [] r t h g a b e = (refl, e)
withdrawals-same k hk least other [] (v ∷ vs) r t h g a b e = absurd (a (begins v vs t r e))
withdrawals-same k hk least other (u ∷ us) [] r t h g a b e = absurd (b (begins u us r t (sym e)))
withdrawals-same k hk least other (u ∷ us) (v ∷ vs) r t h g a b e =
    let f : withdrawal_line u ++ (withdrawal_lines us ++ r) ≡ withdrawal_line v ++ (withdrawal_lines vs ++ t) = sym (append_assoc (withdrawal_line u) (withdrawal_lines us) r) ∙ (e ∙ append_assoc (withdrawal_line v) (withdrawal_lines vs) t) in
    let (c, d) = withdrawal-same (withdrawal_lines us ++ r) (withdrawal_lines vs ++ t) k u v hk (loosened h.0) (loosened g.0) f in
    let (p, q) = withdrawals-same k hk (u.letter + 1) (v.letter + 1) us vs r t h.1 g.1 a b d in
    (ap₂ ◌∷◌ c p, q)
