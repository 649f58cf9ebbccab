-- The run through a next table: one letter more, the letters in two stretches, and the letters of a plan. Assumes nothing.
use Prim.Native.Nat.{ℕ, zero, suc, ◌+◌, ◌*◌, ◌≤◌, ◌<◌}
use Rattle.std.specs.Prelude.{◌≡◌, List, length, get_or, take, drop}
use Rattle.std.proofs.Math.Path.{refl}
use Rattle.std.proofs.Common.{sym, ◌∙◌, ap, arith, add-suc, suc-mul, length-take, length-drop, get_or-take}
use Rattle.std.proofs.Math.Nat.{add-zero}
use Rattle.lists.specs.CellsLaws.{part_at}
use Rattle.tuple_record.specs.Record.{colour_in}
use Rattle.passes.specs.LetterLaws.{letter-lead, letter-cycle}
use Rattle.passes.specs.declared.Pass.{Pass}
use Rattle.passes.specs.Passes.{LeastOf}
use Rattle.passes.specs.TableRun.{AllBelow, word_of, reached, entered_in, end_number, Passing}
use Rattle.passes.specs.LeastLaws.{least-from}

module _ (nexts : List ℕ) (at : ℕ) where
  pub reached-none : (w : ℕ → ℕ) → reached nexts at w 0 ≡ at
  unfolding reached
  reached-none w = refl

  pub reached-more : (w : ℕ → ℕ) (t : ℕ) → get_or nexts (8 * reached nexts at w t + w t) 0 ≡ reached nexts at w (suc t)
  unfolding reached
  reached-more w t = refl

  pub reached-below : (count : ℕ) → AllBelow nexts count → at < count → (w : ℕ → ℕ) (t : ℕ) → reached nexts at w t < count
  unfolding reached
  reached-below count h l w zero = l
  reached-below count h l w (suc t) = h (8 * reached nexts at w t + w t)

  -- first t letters, then s more: the number reached is all that the first letters leave
  pub reached-add : (w : ℕ → ℕ) (t s : ℕ) → reached nexts at w (t + s) ≡ reached nexts (reached nexts at w t) (λ i. w (t + i)) s
  unfolding reached
  reached-add w t zero = rw add-zero
  reached-add w t (suc s) = rw (add-suc, reached-add w t s)

  -- only the letters read count
  reached-same : (w v : ℕ → ℕ) (t : ℕ) → ((i : ℕ) → i < t → w i ≡ v i) → reached nexts at w t ≡ reached nexts at v t
  unfolding reached
  reached-same w v zero h = refl
  reached-same w v (suc t) h = rw (reached-same w v t (λ i l. h i (omega arith)), h t (omega arith))

-- The letters of a plan, in their buffer
module _ (letters : List ℕ) (lead cycle : ℕ) (all : lead + cycle ≤ length letters) where
  lead-length : length (take lead letters) ≡ lead
  lead-length = simp length-take (omega arith)

  cycle-length : length (take cycle (drop lead letters)) ≡ cycle
  cycle-length = simp (length-take, length-drop) (omega arith)

  word-lead : (t : ℕ) → t < lead → word_of letters lead cycle t ≡ get_or letters t 0
  word-lead t l =
      letter-lead (take lead letters) (take cycle (drop lead letters)) t (rw lead-length l)
      ∙ get_or-take lead letters t 0 l

  word-cycle : (p i : ℕ) → i < cycle → word_of letters lead cycle (lead + p * cycle + i) ≡ get_or letters (lead + i) 0
  word-cycle p i l =
      (rw (lead-length, cycle-length) at (letter-cycle (take lead letters) (take cycle (drop lead letters)) p i (rw cycle-length l)))
      ∙ part_at letters lead cycle i l

  -- A pass of the cycle that starts at the end of pass p ends at the end of pass p + 1, and enters the colours in between
  module _ (tuples nexts : List ℕ) (count p : ℕ) (z : Pass)
      (h : Passing tuples nexts count (end_number nexts (word_of letters lead cycle) lead cycle p) (λ i. get_or letters (lead + i) 0) cycle z) where
    abbrev word : ℕ → ℕ
    word = word_of letters lead cycle

    along : (i : ℕ) → i ≤ cycle
        → reached nexts (end_number nexts word lead cycle p) (λ i. get_or letters (lead + i) 0) i ≡ reached nexts 0 word (lead + p * cycle + i)
    along i l =
        reached-same nexts (end_number nexts word lead cycle p) (λ i. get_or letters (lead + i) 0) (λ i. word (lead + p * cycle + i)) i
        (λ j m. sym (word-cycle p j (omega arith)))
        ∙ sym (reached-add nexts 0 word (lead + p * cycle) i)

    next-end : lead + p * cycle + cycle ≡ lead + suc p * cycle
    next-end = omega (arith, suc-mul p cycle)

    pub pass-end : z.at ≡ end_number nexts word lead cycle (suc p)
    pass-end = h.end ∙ (along cycle (omega arith) ∙ ap (reached nexts 0 word) next-end)

    pub pass-least : 0 < cycle → LeastOf (entered_in tuples nexts 0 word) (lead + p * cycle) (lead + suc p * cycle) z.least
    pass-least pos =
        rw next-end at
        (least-from (entered_in tuples nexts 0 word) (entered_in tuples nexts (end_number nexts word lead cycle p) (λ i. get_or letters (lead + i) 0))
        (lead + p * cycle) cycle z.least
        (λ i l. ap (colour_in tuples) (along (suc i) l ∙ ap (reached nexts 0 word) (add-suc (lead + p * cycle) i)))
        (h.least pos))

  -- and the lead-in ends at the zeroth end
  pub lead-end : (tuples nexts : List ℕ) (count : ℕ) (z : Pass) → Passing tuples nexts count 0 (λ i. get_or letters (0 + i) 0) lead z
      → z.at ≡ end_number nexts (word_of letters lead cycle) lead cycle 0
  lead-end tuples nexts count z h =
      let e : lead ≡ lead + 0 * cycle = omega arith in
      h.end
      ∙ (reached-same nexts 0 (λ i. get_or letters (0 + i) 0) (word_of letters lead cycle) lead (λ j m. (let x : 0 + j ≡ j = omega arith in ap (λ (n : ℕ). get_or letters n 0) x ∙ sym (word-lead j m)))
      ∙ ap (reached nexts 0 (word_of letters lead cycle)) e)
