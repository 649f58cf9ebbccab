-- Texts one behind the other, of any lengths: how long they are together, that they determine the pieces, and the loop that writes them. Assumes nothing.
use Rattle.std.specs.Prelude.{ℕ, zero, suc, ◌+◌, ◌-◌, ◌*◌, ◌≤◌, ◌<◌, ◌≡◌, refl, List, ◌++◌, length}
use Rattle.std.proofs.Math.Path.{sym}
use Rattle.std.proofs.Common.{ap, ◌∙◌, add-one, add-zero, suc-mul, sub-eq-zero_of_le, arith, length-append}
use Rattle.std.proofs.Math.Nat.{sub-zero}
use Rattle.std.proofs.Math.Decide.{dec_lt}
use Rattle.std.proofs.lemmas.List.Edits.{sets}
use Rattle.std.proofs.Math.Seq.{length-sets}
use Rattle.lists.specs.AppendLaws.{append-same}
use Rattle.lists.specs.LeftLaws.{left-more}
use Rattle.lists.specs.StoreLaws.{sets-part}
use Rattle.text.specs.Pieces.{pieces}

-- LENGTHS

-- pieces of w bytes each
pub pieces-length : (g : ℕ → List ℕ) (w : ℕ) → ((i : ℕ) → length (g i) ≡ w) → (i left : ℕ) → length (pieces g i left) ≡ left * w
unfolding pieces
pieces-length g w each i zero = omega arith
pieces-length g w each i (suc left) = length-append (g i) (pieces g (suc i) left) ∙ omega (arith, each i, pieces-length g w each (suc i) left, suc-mul left w)

-- pieces of at most w bytes each
pub pieces-most : (g : ℕ → List ℕ) (w : ℕ) → ((i : ℕ) → length (g i) ≤ w) → (i left : ℕ) → length (pieces g i left) ≤ left * w
unfolding pieces
pieces-most g w each i zero = omega arith
pieces-most g w each i (suc left) = omega (arith, length-append (g i) (pieces g (suc i) left), each i, pieces-most g w each (suc i) left, suc-mul left w)

-- EQUAL TEXTS whose pieces are as long have equal pieces

pub pieces-same : (g h : ℕ → List ℕ) → ((i : ℕ) → length (g i) ≡ length (h i)) → (i left : ℕ) → pieces g i left ≡ pieces h i left
    → (j : ℕ) → i ≤ j → j < i + left → g j ≡ h j
unfolding pieces
pieces-same g h each i zero e j a b = absurd (omega arith)
pieces-same g h each i (suc left) e j a b =
    by (append-same (g i) (h i) (pieces g (suc i) left) (pieces h (suc i) left) (each i) e) (dec_lt i j) (pieces-same g h each (suc i) left)
  where
    by : (g i ≡ h i) × (pieces g (suc i) left ≡ pieces h (suc i) left) → Dec (i < j)
        → (pieces g (suc i) left ≡ pieces h (suc i) left → (j : ℕ) → suc i ≤ j → j < suc i + left → g j ≡ h j) → g j ≡ h j
    by (x, y) (yes k) ih = ih y j k (omega arith)
    by (x, y) (no k) ih = let z : j ≡ i = omega arith in ap g z ∙ x ∙ ap h (sym z)

-- THE LOOP that writes pieces

-- before piece i, at position p: what is left to write gives the whole, which stands at `at` in a buffer that was o
pub record Putting (g : ℕ → List ℕ) (o : List ℕ) (at count : ℕ) (out : List ℕ) (p i : ℕ) : Type 0 where
  pub within : i ≤ count
  pub kept : length out ≡ length o
  pub room : at + length (pieces g 0 count) ≤ length o
  pub ends : p + length (pieces g i (count - i)) ≡ at + length (pieces g 0 count)
  pub whole : sets out p (pieces g i (count - i)) ≡ sets o at (pieces g 0 count)

module _ {g : ℕ → List ℕ} {o : List ℕ} {at count : ℕ} where
  pub put-none : at + length (pieces g 0 count) ≤ length o → Putting g o at count o at 0
  put-none h = record { within = omega arith; kept = refl; room = h; ends = rw sub-zero; whole = rw sub-zero }

  module _ {out : List ℕ} {p i : ℕ} (h : Putting g o at count out p i) where
    module _ (l : i < count) where
      abbrev rest : List ℕ
      rest = pieces g (i + 1) (count - (i + 1))

      left : pieces g i (count - i) ≡ g i ++ rest
      unfolding pieces
      left = rw (left-more l, add-one)

      left-length : length (pieces g i (count - i)) ≡ length (g i) + length rest
      left-length = ap length left ∙ length-append (g i) rest

      pub put-room : p + length (g i) ≤ length out
      put-room = omega (arith, left-length, h.ends, h.room, h.kept)

      -- piece i is written, and the next is due at q
      pub put-more : {out' : List ℕ} {q : ℕ} → out' ≡ sets out p (g i) → q ≡ p + length (g i) → Putting g o at count out' q (i + 1)
      put-more {out'} {q} e f = record {
        within = omega arith;
        kept = ap length e ∙ length-sets out p (g i) ∙ h.kept;
        room = h.room;
        ends = omega (arith, left-length, h.ends);
        whole =
            ap (λ (x : List ℕ). sets x q rest) e
            ∙ sym (ap (sets out p) left ∙ sets-part (g i) rest out p q (sym f))
            ∙ h.whole;
      }

    -- behind the last
    module _ (l : count ≤ i) where
      pub put_all : out ≡ sets o at (pieces g 0 count)
      unfolding pieces
      put_all = rw (sub-eq-zero_of_le l) at h.whole

      pub put-end : p ≡ at + length (pieces g 0 count)
      unfolding pieces
      put-end = sym (add-zero p) ∙ (rw (sub-eq-zero_of_le l) at h.ends)
