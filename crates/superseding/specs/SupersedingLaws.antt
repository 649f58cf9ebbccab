-- The cells of the superseding letters: what a store in one of them does, and how a chain is followed to its end. Assumes nothing.
use Prim.Native.Nat.{ℕ, zero, suc, ◌+◌, ◌-◌, ◌≤◌, ◌<◌}
use Rattle.std.specs.Prelude.{◌≡◌, Bool, ◌&&◌, List, [], ◌∷◌, length, set, take, drop}
use Rattle.std.proofs.Math.Path.{refl}
use Rattle.std.proofs.Common.{sym, ◌∙◌, ap, take-append-drop, set-set, drop-drop, take-add, arith, add-zero, add-suc, suc-add}
use Rattle.std.proofs.Math.Bool.{true, false, and-eq-true_iff}
use Rattle.std.proofs.Math.ListN.{get_or}
use Rattle.std.proofs.lemmas.List.Edits.{sets, sets-eq}
use Rattle.std.proofs.lemmas.List.{set_comm, drop-set-add}
use Rattle.std.proofs.Math.Seq.{take-set-lt}
use Rattle.std.proofs.Math.Dec.{ltb}
use borrow.Author.Tests.{lt-ltb, le-ltb, ltb-true}
use Rattle.lists.specs.Choice.{choose}
use Rattle.lists.specs.CellsLaws.{part_length, part_at}
use Rattle.lists.specs.StoreLaws.{part-stored}
use Rattle.superseding.specs.Superseding.{superseding_in, with_superseding, chain_end, final_letter}

-- THE CELLS

-- there are eight
pub eight_cells : (rows : List ℕ) → 224 ≤ length rows → length (superseding_in rows) ≡ 8
eight_cells rows h = part_length rows 216 8 (omega arith)

-- what a store in a cell does
pub cell-stored : (rows : List ℕ) (l m : ℕ) → l < 8 → superseding_in (set rows (216 + l) m) ≡ set (superseding_in rows) l m
cell-stored rows l m h = ap (take 8) (drop-set-add 216 rows l m) ∙ take-set-lt 8 (drop 216 rows) l m h

-- all of them stored
pub eight-stored : (rows cells : List ℕ) → length cells ≡ 8 → 224 ≤ length rows → superseding_in (with_superseding rows cells) ≡ cells
eight-stored rows cells l h = part-stored 8 rows cells 216 l h

-- they are the same where all that stands behind a place ahead of them is
pub cells-behind : (at : ℕ) (old new : List ℕ) → at ≤ 216 → drop at new ≡ drop at old → superseding_in new ≡ superseding_in old
cells-behind at old new h same =
    let e : at + (216 - at) ≡ 216 = omega arith in
    let there : (x : List ℕ) → drop 216 x ≡ drop (216 - at) (drop at x) = λ x. ap (λ (n : ℕ). drop n x) (sym e) ∙ sym (drop-drop (216 - at) at x) in
    ap (take 8) (there new ∙ (ap (drop (216 - at)) same ∙ sym (there old)))

-- stored where they stand
pub eight-kept : (rows : List ℕ) → 224 ≤ length rows → with_superseding rows (superseding_in rows) ≡ rows
eight-kept rows h =
    let l = eight_cells rows h in
    let e : 216 + length (superseding_in rows) ≡ 224 = omega arith in
    sets-eq (superseding_in rows) rows 216 (omega arith) ∙ rw (e, ← take-add 216 8 rows) (take-append-drop 224 rows)

-- a store in one of some cells that were stored: they are stored with it. First a store ahead of them
stored-ahead : (out x : List ℕ) (at j v : ℕ) → j < at → sets (set out j v) at x ≡ set (sets out at x) j v
stored-ahead out [] at j v h = refl
stored-ahead out (a ∷ x) at j v h =
    ap (λ (o : List ℕ). sets o (suc at) x) (set_comm out j at v a (λ e. omega arith)) ∙ stored-ahead (set out at a) x (suc at) j v (omega arith)

stored-among : (out x : List ℕ) (at i v : ℕ) → i < length x → set (sets out at x) (at + i) v ≡ sets out at (set x i v)
stored-among out [] at i v h = absurd (omega arith)
stored-among out (a ∷ x) at zero v h = rw add-zero (sym (stored-ahead (set out at a) x (suc at) at v (omega arith)) ∙ rw set-set)
stored-among out (a ∷ x) at (suc i) v h = rw (add-suc, ← suc-add) (stored-among (set out at a) x (suc at) i v (omega arith))

-- ONE WITHDRAWAL MORE: rows that are the old ones but for the cells stay so
pub withdraw-more : (old rows : List ℕ) (l m : ℕ) → l < 8 → 224 ≤ length rows → rows ≡ with_superseding old (superseding_in rows)
    → set rows (216 + l) m ≡ with_superseding old (superseding_in (set rows (216 + l) m))
withdraw-more old rows l m h fits e =
    ap (λ (r : List ℕ). set r (216 + l) m) e
    ∙ (stored-among old (superseding_in rows) 216 l m (omega (arith, eight_cells rows fits)) ∙ ap (with_superseding old) (sym (cell-stored rows l m h)))

-- ONE CELL is read in the rows
pub superseding-at : (rows : List ℕ) (l : ℕ) → l < 8 → get_or (superseding_in rows) l 0 ≡ get_or rows (216 + l) 0
superseding-at rows l h = part_at rows 216 8 l h

-- THE CHAIN of a letter
module _ (cells : List ℕ) where
  -- a chain that rises has ended by then
  chain-long : (steps l : ℕ) → l < 8 → 8 ≤ l + steps → chain_end cells l (suc steps) ≡ chain_end cells l steps
  unfolding chain_end
  chain-long zero l h b = absurd (omega arith)
  chain-long (suc steps) l h b = by (ltb l (get_or cells l 0) && ltb (get_or cells l 0) 8) refl (chain-long steps (get_or cells l 0))
    where
      by : (t : Bool) → ltb l (get_or cells l 0) && ltb (get_or cells l 0) 8 ≡ t →
          (get_or cells l 0 < 8 → 8 ≤ get_or cells l 0 + steps → chain_end cells (get_or cells l 0) (suc steps) ≡ chain_end cells (get_or cells l 0) steps) →
          choose t (chain_end cells (get_or cells l 0) (suc steps)) l ≡ choose t (chain_end cells (get_or cells l 0) steps) l
      by true e ih =
          let (a, c) = (and-eq-true_iff (ltb l (get_or cells l 0)) (ltb (get_or cells l 0) 8)).0 e in
          ih (ltb-true _ _ c) (omega (arith, ltb-true l (get_or cells l 0) a))
      by false e ih = refl

  module _ (l m : ℕ) (is : m ≡ get_or cells l 0) where
    -- it goes on with a larger letter
    pub chain-on : l < m → m < 8 → final_letter cells l ≡ final_letter cells m
    unfolding chain_end
    chain-on h f = simp (sym is, lt-ltb l m h, lt-ltb m 8 f) (sym (chain-long 7 m f (omega arith)))

    -- and ends with any other cell
    pub chain-falls : m ≤ l → final_letter cells l ≡ l
    unfolding chain_end
    chain-falls h = simp (sym is, le-ltb l m h)

    pub chain-out : 8 ≤ m → l < 8 → final_letter cells l ≡ l
    unfolding chain_end
    chain-out h b = simp (sym is, lt-ltb l m (omega arith), le-ltb m 8 h)
