-- A tuple "is n sets, the non-empty ones first", and here the list of the non-empty ones: empty places behind the new set change nothing.
-- Assumes nothing.
use Rattle.std.specs.Prelude.{ℕ, zero, suc, ◌+◌, ◌≤◌, min, ◌≡◌, refl, Bool, true, false, List, [], ◌∷◌, ◌++◌, ltb, length, replicate}
use Rattle.std.proofs.Common.{sym, ap, ap₂, ◌∙◌, arith, le-ltb}
use Rattle.sets.specs.Sets.{union_of, minus_of, is_empty}
use Rattle.sets.specs.SetLaws.{union-zero, zero_minus}
use Rattle.colour.specs.Colour.{is_emptied, colour_at, dead_or}
use Rattle.tuple.specs.Step.{union_all, is_marked, minus_each, removed, Place, place, turns, pass, least, colour_of, unless_empty, closed, close_up}
use Rattle.tuple.specs.PassLaws.{removed-length, pass-cons, turns-length}

-- the places with k empty ones behind them
abbrev extended : ℕ → List ℕ → List ℕ
extended k l = l ++ replicate k 0

union-zeros : (k : ℕ) → union_all (replicate k 0) ≡ 0
unfolding union_all
union-zeros zero = refl
union-zeros (suc k) = ap (union_of 0) (union-zeros k) ∙ union-zero 0

union-extended : (k : ℕ) (l : List ℕ) → union_all (extended k l) ≡ union_all l
unfolding union_all
union-extended k [] = union-zeros k
union-extended k (x ∷ l) = ap (union_of x) (union-extended k l)

minus-zeros : (k x : ℕ) → minus_each x (replicate k 0) ≡ replicate k 0
minus-zeros zero x = refl
minus-zeros (suc k) x = ap₂ (λ (y : ℕ) (l : List ℕ). y ∷ l) (zero_minus x) (minus-zeros k x)

removed-extended : (m : Bool) (k x : ℕ) (l : List ℕ) → removed m x (extended k l) ≡ extended k (removed m x l)
unfolding removed
removed-extended false k x l = refl
removed-extended true k x l = go l
  where
    go : (l : List ℕ) → minus_each x (extended k l) ≡ extended k (minus_each x l)
    go [] = minus-zeros k x
    go (y ∷ l) = ap (λ (t : List ℕ). minus_of y x ∷ t) (go l)

marked-extended : (k x : ℕ) (l : List ℕ) → is_marked x (union_all (extended k l)) ≡ is_marked x (union_all l)
marked-extended k x l = ap (is_marked x) (union-extended k l)

pass-zeros : (k : ℕ) → pass (replicate k 0) ≡ replicate k (place 0 false)
unfolding pass turns is_marked removed
pass-zeros zero = refl
pass-zeros (suc k) = ap (λ (w : List Place). place 0 false ∷ w) (pass-zeros k)

-- the pass leaves empty places empty, and unmarked
pass-extended : (k f : ℕ) (l : List ℕ) → length l ≤ f → pass (extended k l) ≡ pass l ++ replicate k (place 0 false)
unfolding pass turns
pass-extended k zero [] h = pass-zeros k
pass-extended k zero (x ∷ l) h = absurd (omega arith)
pass-extended k (suc f) [] h = pass-zeros k
pass-extended k (suc f) (x ∷ l) h =
    let m = is_marked x (union_all l) in
    pass-cons x (extended k l)
    ∙ ap (λ (b : Bool). place x b ∷ pass (removed b x (extended k l))) (marked-extended k x l)
    ∙ ap (λ (r : List ℕ). place x m ∷ pass r) (removed-extended m k x l)
    ∙ ap (λ (w : List Place). place x m ∷ w) (pass-extended k f (removed m x l) (omega (arith, removed-length m x l)))
    ∙ ap (λ (w : List Place). w ++ replicate k (place 0 false)) (sym (pass-cons x l))

close-extended : (k : ℕ) (w : List Place) → close_up (w ++ replicate k (place 0 false)) ≡ close_up w
unfolding close_up closed unless_empty
close-extended zero [] = refl
close-extended (suc k) [] = close-extended k []
close-extended k (x ∷ w) = ap (unless_empty (is_empty x.states) x.states) (close-extended k w)

least-extended : (n p i k : ℕ) (w : List Place) → p ≤ i + length w → least n p i (w ++ replicate k (place 0 false)) ≡ least n p i w
unfolding least colour_at
least-extended n p i zero [] h = refl
least-extended n p i (suc k) [] h =
    let e : ltb i p ≡ false = le-ltb i p (omega arith) in
    rw (e, least-extended n p (suc i) k [] (omega arith)) (omega arith)
least-extended n p i k (x ∷ w) h = ap (min (colour_at n i x.mark (is_emptied p i x.states))) (least-extended n p (suc i) k w (omega arith))

-- the sets and the colour of the step are those of the places alone
pub sets-extended : (k : ℕ) (l : List ℕ) → close_up (pass (extended k l)) ≡ close_up (pass l)
sets-extended k l = ap close_up (pass-extended k (length l) l (omega arith)) ∙ close-extended k (pass l)

pub colour-extended : (n p k x : ℕ) (l : List ℕ) → p ≤ length (x ∷ l) → colour_of n p (pass (extended k (x ∷ l))) ≡ colour_of n p (pass (x ∷ l))
unfolding colour_of pass turns
colour-extended n p k x l h =
    let m = turns-length (length (x ∷ l)) (x ∷ l) (omega arith) in
    ap (dead_or (is_empty x))
    (ap (least n p 0) (pass-extended k (length (x ∷ l)) (x ∷ l) (omega arith)) ∙ least-extended n p 0 k (pass (x ∷ l)) (omega arith))
