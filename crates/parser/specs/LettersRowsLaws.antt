-- Superseding letters stored in their cells, behind the rows of names: the names stay, and what stands behind them is the same but for the cells. Assumes nothing.
use Rattle.std.specs.Prelude.{ℕ, ◌+◌, ◌-◌, ◌*◌, ◌≤◌, ◌≡◌, List, length, drop, take, replicate}
use Rattle.std.proofs.Common.{sym, ◌∙◌, ap, arith}
use Rattle.std.proofs.lemmas.List.Edits.{sets}
use Rattle.lists.specs.StoreLaws.{part-kept, drop-stored}
use Rattle.gate.specs.Gate.{cleared}
use Rattle.gate.specs.GateLaws.{drop-zeros, take-zeros}
use Rattle.name_rows.specs.Rows.{HoldNames}
use Rattle.superseding.specs.Superseding.{superseding_in, with_superseding}
use Rattle.superseding.specs.SupersedingLaws.{cells-behind}

pub names-kept : (names : List (List ℕ)) (rows cells : List ℕ) → length names ≤ 8 → HoldNames names rows → HoldNames names (with_superseding rows cells)
names-kept names rows cells few holds l h = record {
  is_name = (holds l h).is_name;
  is = part-kept 24 rows cells 216 (24 * l) (omega arith) ∙ (holds l h).is;
}

pub behind-cells : (k : ℕ) (rows old cells : List ℕ) → k ≤ 8 → drop (24 * k) rows ≡ drop (24 * k) old
    → drop (24 * k) (with_superseding rows cells) ≡ drop (24 * k) (with_superseding old cells)
behind-cells k rows old cells few same =
    let e : 24 * k + (216 - 24 * k) ≡ 216 = omega arith in
    let there : (x : List ℕ) → drop (24 * k) (with_superseding x cells) ≡ sets (drop (24 * k) x) (216 - 24 * k) cells =
    λ x. ap (λ (n : ℕ). drop (24 * k) (sets x n cells)) (sym e) ∙ drop-stored cells x (24 * k) (216 - 24 * k) in
    there rows ∙ (ap (λ (x : List ℕ). sets x (216 - 24 * k) cells) same ∙ sym (there old))

-- no letter is withdrawn in rows that are zero behind the names
pub none-withdrawn : (k : ℕ) (rows old : List ℕ) → k ≤ 8 → 224 ≤ length old → drop (24 * k) rows ≡ drop (24 * k) (cleared old) → superseding_in rows ≡ replicate 8 0
none-withdrawn k rows old few long same =
    cells-behind (24 * k) (cleared old) rows (omega arith) same
    ∙ (ap (take 8) (drop-zeros 216 (length old)) ∙ take-zeros 8 (length old - 216) (omega arith))
