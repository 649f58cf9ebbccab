-- The last line of a file: END and nothing behind it, or which of the two faults. Assumes nothing.
use Rattle.std.specs.Prelude.{ℕ, ◌+◌, ◌≡◌, Bool}
use Rattle.std.proofs.Math.Path.{refl}
use Rattle.std.proofs.Common.{sym, ap, ◌∙◌, arith}
use Rattle.std.proofs.Math.Bool.{true, false}
use mathlib.Core.List.{List, [], ◌++◌}
use Rattle.std.proofs.Math.ListN.{length, drop, length-drop, drop_of_length-le}
use Rattle.std.proofs.Math.Dec.{eqb}
use borrow.Author.Tests.{eqb-true, eqb-false}
use Rattle.lists.specs.Choice.{choose}
use Rattle.text.specs.Word.{starts_at}
use Rattle.text.specs.WordLaws.{starts_is, no_word}
use Rattle.text.specs.Bytes.{end_line}
use Rattle.frame.specs.Phase.{Phase, refused, passed, end_at}

module _ (s : List ℕ) (at : ℕ) where
  abbrev NoEnd : Type 0
  NoEnd = (after : List ℕ) → drop at s ≡ end_line ++ after → ⊥

  one-behind : (x y : List ℕ) → drop at s ≡ end_line ++ x → drop at s ≡ end_line ++ y → x ≡ y
  one-behind x y e f = let g : end_line ++ x ≡ end_line ++ y = sym e ∙ f in cc

  module _ (number line : ℕ) (done : List ℕ) where
    -- what is so where END is missing, where something follows it and where it is last, is so of what is read
    pub end-outcome : (P : Phase (List ℕ) → Type 0) → (NoEnd → P (refused number line))
        → ((after : List ℕ) → drop at s ≡ end_line ++ after → (after ≡ [] → ⊥) → P (refused number (line + 1)))
        → (drop at s ≡ end_line → P (passed done)) → P (end_at number s line at done)
    unfolding end_at
    end-outcome P missing behind last = by (starts_at s at end_line) (eqb (length s) (at + 4)) refl refl
      where
        by : (t u : Bool) → starts_at s at end_line ≡ t → eqb (length s) (at + 4) ≡ u
            → P (choose t (choose u (passed done) (refused number (line + 1))) (refused number line))
        by false u e f = missing (λ after g. no_word s at end_line after e g)
        by true true e f =
            let l : length s ≡ at + 4 = eqb-true _ _ f in
            let z : drop (at + 4) s ≡ [] = drop_of_length-le s {i = at + 4} (omega arith) in
            last (starts_is s at end_line refl e ∙ rw z)
        by true false e f =
            let t : drop at s ≡ end_line ++ drop (at + 4) s = starts_is s at end_line refl e in
            behind (drop (at + 4) s) t
            (λ z. (let l : length (drop at s) ≡ 4 = rw z at (ap length t) in eqb-false (length s) (at + 4) f (omega (arith, length-drop at s))))

    -- The other way round
    pub end-missing : NoEnd → end_at number s line at done ≡ refused number line
    end-missing none =
        end-outcome (λ p. p ≡ refused number line) (λ _. refl) (λ after e some. absurd (none after e)) (λ e. absurd (none [] e))

    pub end-behind : (after : List ℕ) → drop at s ≡ end_line ++ after → (after ≡ [] → ⊥) → end_at number s line at done ≡ refused number (line + 1)
    end-behind after e some =
        end-outcome (λ p. p ≡ refused number (line + 1)) (λ none. absurd (none after e)) (λ _ _ _. refl) (λ f. absurd (some (one-behind after [] e f)))

    pub end_read : drop at s ≡ end_line → end_at number s line at done ≡ passed done
    end_read e =
        end-outcome (λ p. p ≡ passed done) (λ none. absurd (none [] e)) (λ after f some. absurd (some (one-behind after [] f e))) (λ _. refl)

-- whether END is last does not depend on what was read above it
pub end_same :
    (number : ℕ) (s : List ℕ) (line at : ℕ) (x y : List ℕ) (P : Phase (List ℕ) → Phase (List ℕ) → Type 0) →
    ((n l : ℕ) → P (refused n l) (refused n l)) → P (passed x) (passed y) → P (end_at number s line at x) (end_at number s line at y)
unfolding end_at
end_same number s line at x y P out in_order = by (starts_at s at end_line) (eqb (length s) (at + 4))
  where
    done : Bool → Bool → List ℕ → Phase (List ℕ)
    done b c z = choose b (choose c (passed z) (refused number (line + 1))) (refused number line)

    by : (b c : Bool) → P (done b c x) (done b c y)
    by true true = in_order
    by true false = out number (line + 1)
    by false c = out number line
