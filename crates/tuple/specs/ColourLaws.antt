-- The colour of a step: fact F9 of the theory. Assumes nothing.
use Rattle.std.specs.Prelude.{ℕ, zero, suc, ◌+◌, ◌≤◌, ◌<◌, min, ◌≡◌, ◌⊎◌, Bool, List, [], ◌∷◌, ltb, length}
use Rattle.std.proofs.Math.Path.{refl}
use Rattle.std.proofs.Common.{◌∙◌, arith, ltb→lt, lt→ltb}
use Rattle.std.proofs.Math.Logic.{inl, inr}
use Rattle.std.proofs.Math.Bool.{true, false}
use Rattle.std.proofs.Math.Decide.{dec_le}
use Rattle.std.proofs.Math.Dec.{T}
use Rattle.sets.specs.TestLaws.{none_of, empty_of}
use Rattle.sets.specs.Sets.{is_empty}
use Rattle.colour.specs.Colour.{neutral, marked, emptied, dead, is_emptied, colour_at, dead_or}
use Rattle.colour.specs.ColourLaws.{colour-mark, colour-gone}
use Rattle.theory.specs.Run.{Some, None}
use Rattle.tuple.specs.Step.{Place, least, set_at_place, colour_of}
use Rattle.tuple.specs.PassLaws.{After, Marked, and_l, and_r, and_i}

-- The least colour is at most that of each place

least-mark : (n p i : ℕ) (w : List Place) (j : ℕ) → Marked w j → least n p i w ≤ marked (i + j)
unfolding least
least-mark n p i [] j h = absurd h
least-mark n p i (x ∷ w) zero h = omega (arith, colour-mark n i x.mark (is_emptied p i x.states) h)
least-mark n p i (x ∷ w) (suc j) h = omega (arith, least-mark n p (suc i) w j h)

least-gone : (n p i : ℕ) (w : List Place) (j : ℕ) → j < length w → (Marked w j → ⊥) → None (After w j) → i + j < p
    → least n p i w ≤ emptied (i + j)
unfolding least
least-gone n p i [] j k f h l = absurd (omega arith)
least-gone n p i (x ∷ w) zero k f h l =
    let e : T (is_emptied p i x.states) = and_i (is_empty x.states) (ltb i p) (rw (empty_of x.states h) tt) (lt→ltb i p (omega arith)) in
    omega (arith, colour-gone n i x.mark (is_emptied p i x.states) f e)
least-gone n p i (x ∷ w) (suc j) k f h l = omega (arith, least-gone n p (suc i) w j (omega arith) f h (omega arith))

pub least-top : (n p i : ℕ) (w : List Place) → least n p i w ≤ neutral n
unfolding least
least-top n p i [] = omega arith
least-top n p i (x ∷ w) = omega (arith, least-top n p (suc i) w)

-- Where the least colour over the places from i on comes from: a marked place, an emptied place, or neither

data Source (n p i : ℕ) (w : List Place) (c : ℕ) : Type 0 where
  from-mark : (j : ℕ) → Marked w j → c ≡ marked (i + j) → Source n p i w c
  from-gone : (j : ℕ) → None (After w j) → i + j < p → c ≡ emptied (i + j) → Source n p i w c
  from-none : c ≡ neutral n → Source n p i w c

source-here : (n p i : ℕ) (x : Place) (w : List Place) (c : ℕ) → c ≡ colour_at n i x.mark (is_emptied p i x.states) → Source n p i (x ∷ w) c
unfolding colour_at
source-here n p i x w c = by x.mark (is_emptied p i x.states) (λ t. t) (λ t. t)
  where
    by : (m e : Bool) → (T m → T x.mark) → (T e → T (is_emptied p i x.states)) → c ≡ colour_at n i m e → Source n p i (x ∷ w) c
    by true e f g h = from-mark 0 (f tt) (omega arith)
    by false true f g h =
        let l = ltb→lt i p (and_r (is_empty x.states) (ltb i p) (g tt)) in
        from-gone 0 (none_of x.states (and_l (is_empty x.states) (ltb i p) (g tt))) (omega arith) (omega arith)
    by false false f g h = from-none h

least-source : (n p i : ℕ) (w : List Place) → Source n p i w (least n p i w)
unfolding least
least-source n p i [] = from-none refl
least-source n p i (x ∷ w) = by (dec_le (colour_at n i x.mark (is_emptied p i x.states)) (least n p (suc i) w)) (least-source n p (suc i) w)
  where
    by : {d : ℕ} → Dec (colour_at n i x.mark (is_emptied p i x.states) ≤ d) → Source n p (suc i) w d
        → Source n p i (x ∷ w) (min (colour_at n i x.mark (is_emptied p i x.states)) d)
    by (yes l) s = source-here n p i x w _ (omega arith)
    by (no l) (from-mark j k e) = from-mark (suc j) k (omega arith)
    by (no l) (from-gone j z k e) = from-gone (suc j) z (omega arith) (omega arith)
    by (no l) (from-none e) = from-none (omega arith)

-- The colour of the step

module _ (n p : ℕ) (w : List Place) where
  colour-cases : (T (is_empty (set_at_place w 0)) × (colour_of n p w ≡ dead)) ⊎ (colour_of n p w ≡ least n p 0 w)
  unfolding colour_of dead_or
  colour-cases = by (is_empty (set_at_place w 0)) (λ t. t)
    where
      by : (b : Bool) → (T b → T (is_empty (set_at_place w 0)))
          → (T (is_empty (set_at_place w 0)) × (dead_or b (least n p 0 w) ≡ dead)) ⊎ (dead_or b (least n p 0 w) ≡ least n p 0 w)
      by true f = inl (f tt, refl)
      by false f = inr refl

  at_most : (b : ℕ) → dead ≤ b → least n p 0 w ≤ b → colour_of n p w ≤ b
  at_most b d l = by colour-cases
    where
      by : (T (is_empty (set_at_place w 0)) × (colour_of n p w ≡ dead)) ⊎ (colour_of n p w ≡ least n p 0 w) → colour_of n p w ≤ b
      by (inl h) = omega arith
      by (inr h) = omega arith

  pub col-mark : (i : ℕ) → Marked w i → colour_of n p w ≤ marked i
  col-mark i h = at_most (marked i) (omega arith) (omega (arith, least-mark n p 0 w i h))

  pub col-gone : (i : ℕ) → i < length w → ((j : ℕ) → Marked w j → Some (After w j)) → i < p → None (After w i) → colour_of n p w ≤ emptied i
  col-gone i l some k z =
      at_most (emptied i) (omega arith) (omega (arith, least-gone n p 0 w i l (λ m. let (r, a) = some i m in z r a) z (omega arith)))

  pub col-top : colour_of n p w ≤ neutral n
  col-top = at_most (neutral n) (omega arith) (least-top n p 0 w)

  -- a dead step, or the source of the least colour
  source : (T (is_empty (set_at_place w 0)) × (colour_of n p w ≡ dead)) ⊎ Source n p 0 w (colour_of n p w)
  source = by colour-cases (least-source n p 0 w)
    where
      by : (T (is_empty (set_at_place w 0)) × (colour_of n p w ≡ dead)) ⊎ (colour_of n p w ≡ least n p 0 w) → Source n p 0 w (least n p 0 w)
          → (T (is_empty (set_at_place w 0)) × (colour_of n p w ≡ dead)) ⊎ Source n p 0 w (colour_of n p w)
      by (inl h) s = inl h
      by (inr h) (from-mark j k e) = inr (from-mark j k (h ∙ e))
      by (inr h) (from-gone j z k e) = inr (from-gone j z k (h ∙ e))
      by (inr h) (from-none e) = inr (from-none (h ∙ e))

  pub col-pos : 1 ≤ colour_of n p w
  col-pos = by source
    where
      by : (T (is_empty (set_at_place w 0)) × (colour_of n p w ≡ dead)) ⊎ Source n p 0 w (colour_of n p w) → 1 ≤ colour_of n p w
      by (inl h) = omega arith
      by (inr (from-mark j k e)) = omega arith
      by (inr (from-gone j z k e)) = omega arith
      by (inr (from-none e)) = omega arith

  pub col-even : (i : ℕ) → colour_of n p w ≡ marked i → Marked w i
  col-even i h = by source
    where
      by : (T (is_empty (set_at_place w 0)) × (colour_of n p w ≡ dead)) ⊎ Source n p 0 w (colour_of n p w) → Marked w i
      by (inl d) = absurd (omega arith)
      by (inr (from-mark j k e)) = let x : j ≡ i = omega arith in rw (← x) k
      by (inr (from-gone j z k e)) = absurd (omega arith)
      by (inr (from-none e)) = absurd (omega arith)

  pub col-odd : (i : ℕ) → colour_of n p w ≡ emptied i → (i ≡ n) ⊎ (None (After w i) × ((i < p) ⊎ (i ≡ 0)))
  col-odd i h = by source
    where
      by : (T (is_empty (set_at_place w 0)) × (colour_of n p w ≡ dead)) ⊎ Source n p 0 w (colour_of n p w)
          → (i ≡ n) ⊎ (None (After w i) × ((i < p) ⊎ (i ≡ 0)))
      by (inl (z, d)) = let x : i ≡ 0 = omega arith in inr (rw x (none_of (set_at_place w 0) z), inr x)
      by (inr (from-mark j k e)) = absurd (omega arith)
      by (inr (from-gone j z k e)) = let x : j ≡ i = omega arith in inr (rw (← x) z, inl (omega arith))
      by (inr (from-none e)) = inl (omega arith)
