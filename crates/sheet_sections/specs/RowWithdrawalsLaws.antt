-- The lines of the withdrawals, letter by letter. Assumes nothing.
use Prim.Native.Nat.{ℕ, zero, suc, ◌+◌, ◌-◌, ◌≤◌, ◌<◌}
use Rattle.std.specs.Prelude.{◌≡◌}
use Rattle.std.proofs.Math.Path.{refl, sym, ap}
use Rattle.std.proofs.Common.{◌∙◌, inl, inr, sub-eq-zero_of_le}
use mathlib.Core.List.{List, [], ◌∷◌, ◌++◌}
use native.Mathlib.Omega.{arith}
use Rattle.std.proofs.Math.Decide.{ℕ_discrete}
use Rattle.std.proofs.Math.Numerals.{add-one}
use Rattle.std.proofs.Math.ListN.{length, get_or, length-append}
use Rattle.text.specs.Pieces.{pieces}
use Rattle.lists.specs.LeftLaws.{left-more}
use Rattle.superseding.specs.Superseding.{superseding_in}
use Rattle.format.specs.Format.{Withdrawal, withdrawal_line, withdrawal_lines, WithdrawalsRight, Supersedes, InForce}
use Rattle.format.proofs.FormatLaws.{withdrawal-length}
use Rattle.format.specs.Withdrawals.{withdrawn_by, superseding_of}
use Rattle.format.proofs.WithdrawalLaws.{supersedes-right, superseded-cell, force-cell}
use Rattle.sheet_sections.specs.RowWithdrawals.{where_withdrawn, withdrawals_of, line_where, withdrawal_text}

-- The lines of the withdrawals

module _ (cells : List ℕ) (l : ℕ) where
  pub text_in-force : get_or cells l 0 ≡ 0 → withdrawal_text cells l ≡ []
  text_in-force e = rw e

  pub text-withdrawn : (get_or cells l 0 ≡ 0 → ⊥) → withdrawal_text cells l ≡ withdrawal_line (withdrawn_by l (get_or cells l 0))
  text-withdrawn d = by (get_or cells l 0) d
    where
      by : (m : ℕ) → (m ≡ 0 → ⊥) → line_where l m ≡ withdrawal_line (withdrawn_by l m)
      by zero d = absurd (d refl)
      by (suc m) d = refl

  pub length-in-force : get_or cells l 0 ≡ 0 → length (withdrawal_text cells l) ≡ 0
  length-in-force e = ap length (text_in-force e)

  pub length-withdrawn : (get_or cells l 0 ≡ 0 → ⊥) → length (withdrawal_text cells l) ≡ 8
  length-withdrawn d = ap length (text-withdrawn d) ∙ withdrawal-length (withdrawn_by l (get_or cells l 0))

lines-front : (l m : ℕ) (ws : List Withdrawal) → withdrawal_lines (where_withdrawn l m ws) ≡ line_where l m ++ withdrawal_lines ws
unfolding withdrawal_lines
lines-front l zero ws = refl
lines-front l (suc m) ws = refl

pub withdrawals-pieces : (cells : List ℕ) (k l : ℕ) → withdrawal_lines (withdrawals_of cells l k) ≡ pieces (withdrawal_text cells) l k
unfolding withdrawal_lines withdrawals_of pieces
withdrawals-pieces cells zero l = refl
withdrawals-pieces cells (suc k) l =
    lines-front l (get_or cells l 0) (withdrawals_of cells (suc l) k) ∙ ap (withdrawal_text cells l ++◌) (withdrawals-pieces cells k (suc l))

module _ (cells : List ℕ) (k l : ℕ) where
  pub withdrawals-length-next : l < k →
      length (withdrawal_lines (withdrawals_of cells l (k - l)))
      ≡ length (withdrawal_text cells l) + length (withdrawal_lines (withdrawals_of cells (l + 1) (k - (l + 1))))
  unfolding withdrawals_of
  withdrawals-length-next h =
      let rest = withdrawals_of cells (l + 1) (k - (l + 1)) in
      rw (left-more h, ← add-one l) (ap length (lines-front l (get_or cells l 0) rest) ∙ length-append (withdrawal_text cells l) (withdrawal_lines rest))

  pub withdrawals-last : k ≤ l → length (withdrawal_lines (withdrawals_of cells l (k - l))) ≡ 0
  unfolding withdrawal_lines withdrawals_of
  withdrawals-last h = rw (sub-eq-zero_of_le h)

-- Cells that hold withdrawals

-- from letter l on, cells have the superseding letters of some withdrawals and are 0 else
record HoldFrom (cells : List ℕ) (l : ℕ) (ws : List Withdrawal) : Type 0 where
  pub withdrawn : (i m : ℕ) → Supersedes ws i m → get_or cells i 0 ≡ m
  pub in-force : (i : ℕ) → l ≤ i → InForce ws i → get_or cells i 0 ≡ 0

-- the first withdrawal, at its letter
front-is : (l m : ℕ) (w : Withdrawal) (rest : List Withdrawal) → w.letter ≡ l → w.by ≡ m → l < m → where_withdrawn l m rest ≡ w ∷ rest
front-is l zero w rest e f h = absurd (omega arith)
front-is l (suc m) w rest e f h = λ i. record { letter = sym e i; by = sym f i } ∷ rest

module _ (cells : List ℕ) (k : ℕ) where
  withdrawals-from : (left l : ℕ) (ws : List Withdrawal) → k ≤ l + left → WithdrawalsRight k l ws → HoldFrom cells l ws → withdrawals_of cells l left ≡ ws
  unfolding withdrawals_of
  withdrawals-from zero l [] n right h = refl
  withdrawals-from zero l (w ∷ ws) n right h = absurd (omega (arith, right.0.order, right.0.larger, right.0.letter))
  withdrawals-from (suc left) l [] n right h =
      rw (h.in-force l (omega arith) (λ v. v.1))
      (withdrawals-from left (suc l) [] (omega arith) tt (record { withdrawn = h.withdrawn; in-force = λ i b. h.in-force i (omega arith) }))
  withdrawals-from (suc left) l (w ∷ ws) n right h = by (ℕ_discrete w.letter l) (λ vs. withdrawals-from left (suc l) vs (omega arith))
    where
      by : Dec (w.letter ≡ l)
          → ((vs : List Withdrawal) → WithdrawalsRight k (suc l) vs → HoldFrom cells (suc l) vs → withdrawals_of cells (suc l) left ≡ vs)
          → where_withdrawn l (get_or cells l 0) (withdrawals_of cells (suc l) left) ≡ w ∷ ws
      by (yes e) rest =
          let cell : w.by ≡ get_or cells l 0 = sym (rw e at (h.withdrawn w.letter w.by (inl (refl, refl)))) in
          let next : w.letter + 1 ≡ suc l = omega arith in
          let larger = right.0.larger in
          front-is l (get_or cells l 0) w (withdrawals_of cells (suc l) left) e cell (omega arith)
          ∙ ap (w ∷◌) (rest ws (rw next at right.1) (record { withdrawn = λ i m s. h.withdrawn i m (inr s); in-force = λ i b f. h.in-force i (omega arith) (λ v. later i b f v.0 v.1) }))
        where
          later : (i : ℕ) → suc l ≤ i → InForce ws i → (m : ℕ) → Supersedes (w ∷ ws) i m → ⊥
          later i b f m (inl (x, y)) = omega arith
          later i b f m (inr s) = f (m, s)
      by (no d) rest =
          let order = right.0.order in
          let from : (least : ℕ) → least ≤ w.letter → WithdrawalsRight k least (w ∷ ws) =
          λ least o. (record { order = o; larger = right.0.larger; letter = right.0.letter }, right.1) in
          let none : get_or cells l 0 ≡ 0 =
          h.in-force l (omega arith) (λ v. (let o = (supersedes-right k w.letter (w ∷ ws) (from w.letter (omega arith)) l v.0 v.1).0 in omega arith)) in
          rw none (rest (w ∷ ws) (from (suc l) (omega arith)) (record { withdrawn = h.withdrawn; in-force = λ i b. h.in-force i (omega arith) }))

cells-hold : (k : ℕ) → k ≤ 8 → (ws : List Withdrawal) → WithdrawalsRight k 0 ws → withdrawals_of (superseding_of ws) 0 k ≡ ws
cells-hold k few ws right =
    withdrawals-from (superseding_of ws) k k 0 ws (omega arith) right
    (record { withdrawn = superseded-cell k few ws right; in-force = λ i b. force-cell k few ws right i })

-- the withdrawals in rows that hold some are those
pub rows-withdraw : (ws : List Withdrawal) (rows : List ℕ) (k : ℕ) → k ≤ 8 → WithdrawalsRight k 0 ws → superseding_in rows ≡ superseding_of ws
    → withdrawals_of (superseding_in rows) 0 k ≡ ws
rows-withdraw ws rows k few right e = ap (λ (cells : List ℕ). withdrawals_of cells 0 k) e ∙ cells-hold k few ws right
