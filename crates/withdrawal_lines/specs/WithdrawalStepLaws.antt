-- One step of the definition of the withdrawal lines, which the loop goes along. Assumes nothing.
use Rattle.std.specs.Prelude.{ℕ, suc, ◌+◌, ◌≡◌, List, get_or, set, Option}
use Rattle.std.proofs.Common.{eq-eqb}
use Rattle.frame.specs.Phase.{refused}
use Rattle.withdrawal_lines.specs.WithdrawalLines.{with_withdrawal, withdrawal_line_at, withdrawals_at}

-- THE WITHDRAWAL LINES: g of them may still come
module _ (s : List ℕ) (k line at least : ℕ) (cells : List ℕ) (f g : ℕ) (h : g ≡ suc f) where
  pub withdrawals-turn :
      {v : Option (ℕ × ℕ)} → get_or s at 0 ≡ 87 → withdrawal_line_at s at k least ≡ v →
      withdrawals_at s k line at least cells g ≡
      with_withdrawal v (λ w. withdrawals_at s k (line + 1) (at + 8) (w.letter + 1) (set cells w.letter w.by) f) (refused 15 line)
  unfolding withdrawals_at
  withdrawals-turn t e = rw h (simp (eq-eqb _ _ t, e))
