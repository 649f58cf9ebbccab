-- The loop of the marking pass, which closes up as it goes. Assumes nothing.
use Prim.Native.Nat.{ℕ, zero, suc, ◌+◌, ◌-◌, ◌≤◌, ◌<◌, min}
use Rattle.std.specs.Prelude.{◌≡◌, refl, Bool, ◌⊎◌, get_or, take}
use Rattle.std.proofs.Math.Path.{sym, ap, ap₂}
use Rattle.std.proofs.Common.{◌∙◌, inl, inr, arith, eq-eqb, ne_eqb, length-append, drop-cons}
use mathlib.Core.List.{List, [], ◌∷◌, ◌++◌, append_assoc, append-nil}
use Rattle.std.proofs.Math.Numerals.{add-one}
use Rattle.std.proofs.Math.ListN.{length, set, drop, replicate}
use Rattle.std.proofs.lemmas.List.{length-replicate, get_or_at}
use Rattle.std.proofs.Math.Seq.{set_at, slice, slice_empty, slice-cons}
use Rattle.sets.specs.Sets.{minus_of}
use Rattle.colour.specs.Colour.{neutral, is_emptied, colour_at}
use Rattle.tuple.specs.Step.{union_all, is_marked, minus_each, Place, place, turns, pass, least, unless_empty, closed, close_up}
use Rattle.tuple.specs.ColourLaws.{least-top}
use Rattle.tuple.specs.Parts.{out_of, Swept}
use Rattle.tuple.specs.GatherLaws.{minus-each-none, pass-turn}

close-empty : (x : ℕ) (m : Bool) (w : List Place) → x ≡ 0 → close_up (place x m ∷ w) ≡ close_up w
unfolding close_up closed unless_empty
close-empty x m w e = rw (eq-eqb x 0 e)

close-full : (x : ℕ) (m : Bool) (w : List Place) → (x ≡ 0 → ⊥) → close_up (place x m ∷ w) ≡ x ∷ close_up w
unfolding close_up closed unless_empty
close-full x m w e = rw (ne_eqb x 0 e)

zeros-shift : (k : ℕ) (r : List ℕ) → replicate k 0 ++ (0 ∷ r) ≡ 0 ∷ (replicate k 0 ++ r)
zeros-shift zero r = refl
zeros-shift (suc k) r = ap (λ (l : List ℕ). 0 ∷ l) (zeros-shift k r)

min_assoc : (a b c : ℕ) → min a (min b c) ≡ min (min a b) c
min_assoc a b c = omega arith

-- what is left of the places from i on, where o is removed
abbrev left_of : ℕ → List ℕ → ℕ → ℕ → List ℕ
left_of count cells o i = minus_each o (slice i count cells)

-- the state of the loop before the turn of place i: done are the j sets closed up so far, o is what is removed from the places left
pub record Sweeping (n p count : ℕ) (cells result : List ℕ) (c o j i : ℕ) : Type 0 where
  pub done : List ℕ
  pub kept : length done ≡ j
  pub gaps : ℕ
  pub passed : j + gaps ≡ i
  pub holds : result ≡ done ++ (replicate gaps 0 ++ drop i cells)
  pub sets : close_up (pass (take count cells)) ≡ done ++ close_up (pass (left_of count cells o i))
  pub colour : least n p 0 (pass (take count cells)) ≡ min c (least n p i (pass (left_of count cells o i)))
  pub most : c ≤ neutral n

module _ (n p count : ℕ) (cells : List ℕ) (long : count ≤ length cells) where
  pub sweep-none : Sweeping n p count cells cells (neutral n) 0 0 0
  sweep-none = record {
    done = [];
    kept = refl;
    gaps = 0;
    passed = refl;
    holds = refl;
    sets = rw (minus-each-none (take count cells));
    colour = rw (minus-each-none (take count cells)) (omega (arith, least-top n p 0 (pass (take count cells))));
    most = omega arith;
  }

  module _ {result : List ℕ} {c o j i : ℕ} (s : Sweeping n p count cells result c o j i) where
    ready : List ℕ
    ready = s.done ++ replicate s.gaps 0

    ready-length : length ready ≡ i
    unfolding ready
    ready-length = simp (length-append, length-replicate) (omega (arith, s.kept, s.passed))

    split : i < count → result ≡ ready ++ (get_or cells i 0 ∷ drop (suc i) cells)
    unfolding ready
    split h = s.holds ∙ rw (drop-cons cells i 0 (omega arith), append_assoc)

    sweep-read : i < count → get_or result i 0 ≡ get_or cells i 0
    sweep-read h = rw (split h) (get_or_at ready (get_or cells i 0) (drop (suc i) cells) 0 i ready-length)

    cleared : i < count → set result i 0 ≡ ready ++ (0 ∷ drop (suc i) cells)
    cleared h = ap (λ (r : List ℕ). set r i 0) (split h) ∙ set_at ready (get_or cells i 0) (drop (suc i) cells) 0 i ready-length

    gap_more : ready ++ (0 ∷ drop (suc i) cells) ≡ s.done ++ (replicate (suc s.gaps) 0 ++ drop (i + 1) cells)
    unfolding ready
    gap_more = append_assoc s.done (replicate s.gaps 0) (0 ∷ drop (suc i) cells) ∙ rw (zeros-shift, add-one)

    set_more : (x : ℕ)
        → set (ready ++ (0 ∷ drop (suc i) cells)) j x ≡ (s.done ++ (x ∷ [])) ++ (replicate s.gaps 0 ++ drop (i + 1) cells)
    unfolding ready
    set_more x =
        let r = replicate s.gaps 0 ++ drop (suc i) cells in
        ap (λ (z : List ℕ). set z j x)
        (append_assoc s.done (replicate s.gaps 0) (0 ∷ drop (suc i) cells)
        ∙ ap (λ (z : List ℕ). s.done ++ z) (zeros-shift s.gaps (drop (suc i) cells)))
        ∙ set_at s.done 0 r x j s.kept
        ∙ sym (append_assoc s.done (x ∷ []) r)
        ∙ rw add-one

    -- the turn of place i, whose set is x after what marked places remove
    module _ (x c' o' u k : ℕ) (m : Bool) (h : i < count) (left : x ≡ minus_of (get_or result i 0) o)
        (later : u ≡ union_all (slice (suc i) count cells)) (mark : m ≡ is_marked x u)
        (colour-here : k ≡ colour_at n i m (is_emptied p i x)) (least-so-far : c' ≡ min c k) (out : o' ≡ out_of m o x) where
      left' : x ≡ minus_of (get_or cells i 0) o
      left' = left ∙ ap (λ (z : ℕ). minus_of z o) (sweep-read h)

      turned : pass (left_of count cells o i) ≡ place x m ∷ pass (left_of count cells o' (i + 1))
      turned =
          let l = slice (suc i) count cells in
          let y = minus_of (get_or cells i 0) o in
          let k : m ≡ is_marked y (union_all l) = rw (← left', ← later) mark in
          ap (λ (z : List ℕ). pass (minus_each o z)) (slice-cons i count cells 0 h long)
          ∙ pass-turn (get_or cells i 0) o m l k
          ∙ rw (add-one, out, left')

      colour-turned : least n p 0 (pass (take count cells)) ≡ min c' (least n p (i + 1) (pass (left_of count cells o' (i + 1))))
      unfolding least
      colour-turned =
          let l = least n p (suc i) (pass (left_of count cells o' (suc i))) in
          s.colour
          ∙ ap (λ (w : List Place). min c (least n p i w)) turned
          ∙ rw (add-one, least-so-far, colour-here) (min_assoc c (colour_at n i m (is_emptied p i x)) l)

      most-turned : c' ≤ neutral n
      most-turned = let a = s.most in omega arith

      turn-empty : x ≡ 0 → Sweeping n p count cells (set result i 0) c' o' j (i + 1)
      turn-empty e = record {
        done = s.done;
        kept = s.kept;
        gaps = suc s.gaps;
        passed = omega (arith, s.passed);
        holds = cleared h ∙ gap_more;
        sets =
            s.sets
            ∙ ap (λ (w : List Place). s.done ++ close_up w) turned
            ∙ ap (λ (z : List ℕ). s.done ++ z) (close-empty x m (pass (left_of count cells o' (i + 1))) e);
        colour = colour-turned;
        most = most-turned;
      }

      turn-full : (x ≡ 0 → ⊥) → Sweeping n p count cells (set (set result i 0) j x) c' o' (j + 1) (i + 1)
      turn-full e = record {
        done = s.done ++ (x ∷ []);
        kept = length-append s.done (x ∷ []) ∙ omega (arith, s.kept);
        gaps = s.gaps;
        passed = omega (arith, s.passed);
        holds = ap (λ (r : List ℕ). set r j x) (cleared h) ∙ set_more x;
        sets =
            s.sets
            ∙ ap (λ (w : List Place). s.done ++ close_up w) turned
            ∙ ap (λ (z : List ℕ). s.done ++ z) (close-full x m (pass (left_of count cells o' (i + 1))) e)
            ∙ sym (append_assoc s.done (x ∷ []) (close_up (pass (left_of count cells o' (i + 1)))));
        colour = colour-turned;
        most = most-turned;
      }

      -- a set that is left is written behind those closed up so far
      pub sweep-turn : {result' : List ℕ} {j' : ℕ}
          → ((x ≡ 0 → ⊥) × (result' ≡ set (set result i 0) j x) × (j' ≡ j + 1)) ⊎ ((x ≡ 0) × (result' ≡ set result i 0) × (j' ≡ j))
          → Sweeping n p count cells result' c' o' j' (i + 1)
      sweep-turn (inl (e, a, b)) = rw (a, b) (turn-full e)
      sweep-turn (inr (e, a, b)) = rw (a, b) (turn-empty e)

    pub sweep-end : i ≡ count → Swept n p count cells result c
    unfolding pass turns close_up closed least
    sweep-end e =
        let b : slice i count cells ≡ [] = rw e (slice_empty count cells) in
        let d : close_up (pass (take count cells)) ≡ s.done = s.sets ∙ rw (b, append-nil) in
        let k : s.gaps ≡ count - length s.done = omega (arith, s.kept, s.passed) in
        record {
          closes = s.holds ∙ ap₂ (λ (g z : ℕ). s.done ++ (replicate g 0 ++ drop z cells)) k e ∙ rw d;
          coloured = sym (s.colour ∙ rw b (omega (arith, s.most)));
        }
