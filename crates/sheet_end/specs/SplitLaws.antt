-- A line that is just END lies within the input, what a test tells of it, and that the sheet ends at some place. Assumes nothing.
use Rattle.std.specs.Prelude.{ℕ, zero, suc, ◌+◌, ◌≤◌, ◌<◌, ◌≡◌, refl, Bool, true, false, List, length, get_or, drop}
use Rattle.std.proofs.Common.{sym, ap, ◌∙◌, arith, below_more, length-drop}
use Rattle.std.proofs.Math.Decide.{ℕ_discrete}
use Rattle.gate.specs.Gate.{Decides}
use Rattle.gate.specs.GateLaws.{decides-yes, decides-no}
use Rattle.text.specs.Bytes.{lf, end_line, stretch}
use Rattle.text.specs.BytesLaws.{stretch-end}
use Rattle.text.specs.Word.{starts_at}
use Rattle.text.specs.WordLaws.{starts_is, no_word}
use Rattle.sheet_end.specs.Split.{LineStart, EndLine, SheetEnds}

pub end-within : (s : List ℕ) (a : ℕ) → EndLine s a → a + 4 ≤ length s
end-within s a e = omega (arith, length-drop a s, ap length e.is)

pub none_below : (s : List ℕ) → ((b : ℕ) → b < length s → EndLine s b → ⊥) → (b : ℕ) → EndLine s b → ⊥
none_below s h b e = h b (omega (arith, end-within s b e)) e

-- where a line starts, it is asked for END and LF
pub end-told : (s : List ℕ) (a : ℕ) (r : Bool) → LineStart s a → r ≡ starts_at (stretch s a (length s)) 0 end_line
    → Decides r (EndLine s a)
end-told s a r start e = by r (e ∙ ap (λ (x : List ℕ). starts_at x 0 end_line) (stretch-end s a))
  where
    by : (r : Bool) → r ≡ starts_at (drop a s) 0 end_line → Decides r (EndLine s a)
    by true e = decides-yes (record { start = start; rest = drop 4 (drop a s); is = starts_is (drop a s) 0 end_line refl (sym e) })
    by false e = decides-no (λ l. no_word (drop a s) 0 end_line l.rest (sym e) l.is)

-- the sheet ends within the input
pub ends-within : (s : List ℕ) (e : ℕ) → SheetEnds s e → e ≤ length s
ends-within s e (SheetEnds.behind a k l none) = omega (arith, end-within s a l)
ends-within s e (SheetEnds.nowhere k none) = omega arith

-- THE SHEET ENDS SOMEWHERE

module _ (s : List ℕ) where
  line-starts : (a : ℕ) → Dec (LineStart s a)
  line-starts zero = yes (λ i e. absurd (omega arith))
  line-starts (suc a) = by (ℕ_discrete (get_or s a 0) lf)
    where
      by : Dec (get_or s a 0 ≡ lf) → Dec (LineStart s (suc a))
      by (yes h) = yes (λ i e. let k : i ≡ a = omega arith in rw k h)
      by (no h) = no (λ start. h (start a (omega arith)))

  is-end : (a : ℕ) → Dec (EndLine s a)
  is-end a = by (line-starts a)
    where
      told : (r : Bool) → Decides r (EndLine s a) → Dec (EndLine s a)
      told true d = yes (d.0 refl)
      told false d = no (d.1 refl)

      by : Dec (LineStart s a) → Dec (EndLine s a)
      by (yes h) = told (starts_at (stretch s a (length s)) 0 end_line) (end-told s a _ h refl)
      by (no h) = no (λ e. h e.start)

  -- no line that starts before a is just END, and k places are left
  ends-from : (k a : ℕ) → a + k ≡ length s → ((b : ℕ) → b < a → EndLine s b → ⊥) → (e : ℕ) × SheetEnds s e
  ends-from zero a h none = (length s, SheetEnds.nowhere refl (none_below s (λ b l. none b (omega arith))))
  ends-from (suc k) a h none = by (is-end a) (ends-from k (a + 1) (omega arith))
    where
      by : Dec (EndLine s a) → (((b : ℕ) → b < a + 1 → EndLine s b → ⊥) → (e : ℕ) × SheetEnds s e) → (e : ℕ) × SheetEnds s e
      by (yes l) ih = (a + 4, SheetEnds.behind a refl l none)
      by (no l) ih = ih (below_more _ _ none l)

  pub some_end : (e : ℕ) × SheetEnds s e
  some_end = ends-from (length s) 0 (omega arith) (λ b l. absurd (omega arith))
