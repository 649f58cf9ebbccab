-- The parts of the code, one after the other, make the step. Assumes nothing.
use Rattle.std.specs.Prelude.{ℕ, zero, suc, ◌+◌, ◌-◌, ◌≤◌, ◌<◌, ◌≡◌, take}
use Rattle.std.proofs.Math.Path.{refl, sym, ap, ap₂}
use Rattle.std.proofs.Common.{◌∙◌, arith, length-append, length-take, take_at, drop_at, get_or-take}
use mathlib.Core.List.{List, [], ◌∷◌, ◌++◌, map, append_assoc, append-nil}
use Rattle.std.proofs.Math.Numerals.{add-one}
use Rattle.std.proofs.Math.ListN.{length, get_or, set, drop, replicate, length-map}
use Rattle.std.proofs.lemmas.List.{length-replicate, replicate-append-replicate}
use Rattle.std.proofs.Math.Seq.{drop-cons, set_at, drop-append-add}
use Rattle.sets.specs.Sets.{inter_of, is_empty}
use Rattle.automaton.specs.Automaton.{Automaton}
use Rattle.automaton.specs.Successors.{successors_of}
use Rattle.automaton.specs.declared.Edition.{Edition}
use Rattle.automaton.specs.declared.Edition.TheVariants.{StateBased, TransitionBased}
use Rattle.colour.specs.Colour.{dead_or}
use Rattle.tuple.specs.Step.{place_set, recurrent_by, recurrent, places, turns, pass, set_at_place, colour_of, close_up, next}
use Rattle.tuple.specs.PassLaws.{turns-length}
use Rattle.tuple.specs.CloseLaws.{close_up-length}
use Rattle.tuple.specs.PlaceLaws.{places-length}
use Rattle.tuple.specs.TupleLaws.{next-formed}
use Rattle.tuple_record.specs.Record.{set_cells}
use Rattle.tuple.specs.Row.{sets_of, row, tuple_of, Steps}
use Rattle.tuple.specs.RowLaws.{row-length, row-set}
use Rattle.lists.specs.SearchLaws.{leading_length}
use Rattle.tuple.specs.AdvanceLaws.{advanced-first}
use Rattle.tuple.specs.Parts.{Advanced, recurrent_from, Swept, Placed, settled}

-- the pass does not touch place 0
pass-first : (l : List ℕ) → set_at_place (pass l) 0 ≡ place_set l 0
unfolding pass turns
pass-first [] = refl
pass-first (x ∷ l) = refl

-- cells behind the first m, of zeros and one last number, after p + 1 - s zeros: zeros again, and one last number
abbrev Refilled : ℕ → ℕ → ℕ → Type 0
Refilled s p k = (y : ℕ) × (replicate (p + 1 - s) 0 ++ drop 1 (replicate (set_cells - p) 0 ++ (k ∷ [])) ≡ replicate (set_cells - s) 0 ++ (y ∷ []))

refill : (s p k : ℕ) → s ≤ set_cells → s ≤ p + 1 → p ≤ set_cells → Refilled s p k
refill s p k a b h = by (set_cells - p) refl
  where
    by : (m : ℕ) → set_cells - p ≡ m → Refilled s p k
    by zero e =
        let d : p + 1 - s ≡ set_cells - s + 1 = omega arith in
        (0, rw (e, d, append-nil, ← replicate-append-replicate {A = ℕ} (set_cells - s) 1 0))
    by (suc m) e =
        let d : p + 1 - s + m ≡ set_cells - s = omega arith in
        (k, rw (e, ← append_assoc (replicate (p + 1 - s) 0) (replicate m 0) (k ∷ []), replicate-append-replicate {A = ℕ} (p + 1 - s) m 0, d))

-- the marking pass and the colour
pub settle-done : (n p : ℕ) (cells result : List ℕ) (c : ℕ) → p < length cells → Swept n p (p + 1) cells result c
    → set result set_cells (dead_or (is_empty (get_or cells 0 0)) c) ≡ settled n p cells
unfolding colour_of
settle-done n p cells result c h swept =
    let z : get_or cells 0 0 ≡ set_at_place (pass (take (p + 1) cells)) 0 =
    sym (get_or-take (p + 1) cells 0 0 (omega arith)) ∙ sym (pass-first (take (p + 1) cells)) in
    rw (swept.closes, swept.coloured, z)

module _ {A : Automaton} {l : ℕ} {cells : List ℕ} (steps : Steps A l cells) where
  few : length (sets_of cells) ≤ set_cells
  few = let a = leading_length (take set_cells cells) in let b = length-take set_cells cells in omega arith

  pub cells-length : length cells ≡ set_cells + 1
  unfolding tuple_of
  cells-length = ap length steps.is_row ∙ row-length (tuple_of cells) few

  first_cell : get_or cells 0 0 ≡ place_set (sets_of cells) 0
  unfolding tuple_of
  first_cell = ap (λ (z : List ℕ). get_or z 0 0) steps.is_row ∙ row-set (tuple_of cells) few 0 (omega arith)

  module _ {w : List ℕ} {p : ℕ} (advanced : Advanced A.table l cells w p) where
    pub count-few : p ≤ set_cells
    count-few = let a = advanced.counted in let b = few in omega arith

    new-first : get_or w 0 0 ≡ successors_of A.table l (place_set (sets_of cells) 0)
    new-first = advanced-first A.table l cells advanced ∙ ap (successors_of A.table l) first_cell

    abbrev new_set : ℕ
    new_set = recurrent_from A.edition A.recurring A.marks l (get_or cells 0 0) (get_or w 0 0)

    new-recurrent : new_set ≡ recurrent A l (place_set (sets_of cells) 0)
    new-recurrent = by A.edition
      where
        by : (d : Edition) → recurrent_from d A.recurring A.marks l (get_or cells 0 0) (get_or w 0 0) ≡ recurrent_by d A l (place_set (sets_of cells) 0)
        by StateBased = ap (λ (z : ℕ). inter_of z A.recurring) new-first
        by TransitionBased = ap (λ (z : ℕ). successors_of A.marks l z) first_cell

    put : set w p new_set ≡ places A l (sets_of cells) ++ drop (p + 1) cells
    unfolding places
    put =
        let s = sets_of cells in
        let f = successors_of A.table l in
        let n : length (map f s) ≡ p = length-map s f ∙ sym advanced.counted in
        let d : drop p cells ≡ get_or cells p 0 ∷ drop (suc p) cells = drop-cons cells p 0 (omega (arith, cells-length, count-few)) in
        ap₂ (λ (z : List ℕ) (x : ℕ). set z p x) (advanced.replaced ∙ ap (λ (z : List ℕ). map f s ++ z) d) new-recurrent
        ∙ set_at (map f s) (get_or cells p 0) (drop (suc p) cells) (recurrent A l (place_set s 0)) p n
        ∙ sym (append_assoc (map f s) (recurrent A l (place_set s 0) ∷ []) (drop (suc p) cells))
        ∙ rw add-one

    -- the new set is put at place p
    pub place-done : Placed A l cells (set w p new_set) p
    place-done = record { counted = advanced.counted; places-put = put }

  module _ {w : List ℕ} {p : ℕ} (placed : Placed A l cells w p) where
    abbrev before : List ℕ
    before = places A l (sets_of cells)

    pub placed-few : p ≤ set_cells
    placed-few = let a = placed.counted in let b = few in omega arith

    before-length : length before ≡ p + 1
    before-length = places-length A l (sets_of cells) ∙ omega (arith, placed.counted)

    before-take : take (p + 1) w ≡ before
    before-take = ap (take (p + 1)) placed.places-put ∙ take_at before (drop (p + 1) cells) (p + 1) before-length

    before-drop : drop (p + 1) w ≡ drop (p + 1) cells
    before-drop = ap (drop (p + 1)) placed.places-put ∙ drop_at before (drop (p + 1) cells) (p + 1) before-length

    abbrev after : List ℕ
    after = close_up (pass before)

    after_is : after ≡ (next A l (tuple_of cells)).sets
    unfolding next tuple_of
    after_is = refl

    colour-is : colour_of A.n p (pass before) ≡ (next A l (tuple_of cells)).colour
    unfolding next tuple_of
    colour-is = ap (λ (q : ℕ). colour_of A.n q (pass before)) placed.counted

    after-few : length after ≤ set_cells
    after-few =
        let a = (next-formed steps.fits l steps.letter (tuple_of cells)).few in
        let b = steps.fits.range.1 in
        let e = ap length after_is in
        omega arith

    after_less : length after ≤ p + 1
    unfolding pass
    after_less =
        let a = close_up-length (pass before) in
        let b = turns-length (length before) before (omega arith) in
        omega (arith, before-length)

    -- the cells behind the places
    rest : drop (p + 1) cells ≡ drop 1 (replicate (set_cells - p) 0 ++ ((tuple_of cells).colour ∷ []))
    unfolding row tuple_of
    rest =
        let s = sets_of cells in
        let e : p + 1 ≡ length s + 1 = omega (arith, placed.counted) in
        let f : length s ≡ p = sym placed.counted in
        ap₂ (λ (n : ℕ) (z : List ℕ). drop n z) e steps.is_row
        ∙ drop-append-add s (replicate (set_cells - length s) 0 ++ ((tuple_of cells).colour ∷ [])) 1
        ∙ rw f

    pub step-done : settled A.n p w ≡ row (next A l (tuple_of cells))
    unfolding row
    step-done =
        let (y, e) = refill (length after) p (tuple_of cells).colour after-few after_less placed-few in
        let d = colour_of A.n p (pass before) in
        let zeros = replicate {A = ℕ} (set_cells - length after) 0 in
        let r : after ++ (replicate (p + 1 - length after) 0 ++ drop (p + 1) cells) ≡ after ++ (zeros ++ (y ∷ [])) =
        ap (λ (z : List ℕ). after ++ z) (rw rest e) in
        let n : length (after ++ zeros) ≡ set_cells = simp (length-append, length-replicate) (omega (arith, after-few)) in
        rw (before-take, before-drop)
        (ap (λ (z : List ℕ). set z set_cells d) (r ∙ sym (append_assoc after zeros (y ∷ [])))
        ∙ set_at (after ++ zeros) y [] d set_cells n
        ∙ append_assoc after zeros (d ∷ [])
        ∙ ap₂ (λ (s : List ℕ) (k : ℕ). s ++ (replicate (set_cells - length s) 0 ++ (k ∷ []))) after_is colour-is)
