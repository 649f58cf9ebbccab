-- Known names: each has one letter, which is the sheet's and the one that finally stands for the letter that a search among the composed
-- names finds. Assumes nothing.
use Rattle.std.specs.Prelude.{ℕ, zero, suc, ◌+◌, ◌≤◌, ◌<◌, ◌≡◌, refl, List, [], ◌∷◌, ◌++◌, map, length, get_or}
use Rattle.std.proofs.Common.{sym, ap, ◌∙◌, append_assoc, length-append, arith}
use Rattle.std.proofs.lemmas.List.{length-map}
use Rattle.std.proofs.Math.ListN.{get_or-append}
use Rattle.names.specs.Name.{IsName, compose}
use Rattle.superseding.specs.Superseding.{final_letter}
use Rattle.format.specs.Format.{Sheet, NamesRight, WithdrawalsRight}
use Rattle.format.specs.StandsFor.{StandsFor}
use Rattle.format.specs.Withdrawals.{superseding_of}
use Rattle.format.proofs.FinallyLaws.{final-is}
use Rattle.format.proofs.StandsForLaws.{stands-for, stands-none, stands-letter}
use Rattle.name_rows.specs.Rows.{letter_of}
use Rattle.name_rows.specs.LetterLaws.{letter-first, letter-is, composed-at}
use Rattle.format.specs.DistinctLaws.{distinct-at}
use Rattle.plan_lines.specs.PlanLines.{Known, none, more}

-- names that are right are distinct after composing, by their letters
names_apart : (earlier names : List (List ℕ)) → NamesRight earlier names
    → (i j : ℕ) → i < length earlier + j → j < length names → compose (get_or (earlier ++ names) i []) ≡ compose (get_or names j []) → ⊥
names_apart earlier [] r i j h k e = omega arith
names_apart earlier (x ∷ xs) r i zero h k e =
    distinct-at x earlier r.1 i (omega arith) (ap compose (sym (get_or-append earlier (x ∷ xs) [] i (omega arith))) ∙ e)
names_apart earlier (x ∷ xs) r i (suc j) h k e =
    names_apart (earlier ++ (x ∷ [])) xs r.2 i j (omega (arith, length-append earlier (x ∷ []))) (omega arith) (rw (append_assoc earlier (x ∷ []) xs) e)

module _ (σ : Sheet) (all : length σ.names ≡ σ.k) (x : List ℕ) where
  -- the letter found
  abbrev found : ℕ
  found = letter_of (map compose σ.names) (compose x)

  pub found_none : (found < length (map compose σ.names) → ⊥) → (l : ℕ) → StandsFor σ x l → ⊥
  found_none f = stands-none σ all x found (letter-first (map compose σ.names) (compose x)) (omega (arith, f, length-map σ.names compose))

  -- where names are distinct, no other letter has the name
  pub named-found : NamesRight [] σ.names → (l : ℕ) (h : StandsFor σ x l) → found ≡ h.named
  named-found right l h =
      let k = h.letter in
      letter-is (map compose σ.names) (compose x) h.named
      (record {
        most = omega (arith, length-map σ.names compose);
        is = λ g. composed-at σ.names h.named ∙ h.same;
        first = λ i g e. names_apart [] σ.names right i h.named (omega arith) (omega arith) (sym (composed-at σ.names i) ∙ (e ∙ sym h.same));
      })

  module _ (few : σ.k ≤ 8) (withdrawals : WithdrawalsRight σ.k 0 σ.withdrawals) where
    -- the letter that finally stands for it
    abbrev final : ℕ
    final = final_letter (superseding_of σ.withdrawals) found

    pub found-stands : IsName x → found < length (map compose σ.names) → StandsFor σ x final
    found-stands is h =
        stands-for σ all x found (letter-first (map compose σ.names) (compose x)) few withdrawals is (omega (arith, length-map σ.names compose))

    -- where names are distinct, a name stands for no other letter
    pub stands-found : NamesRight [] σ.names → (l : ℕ) → StandsFor σ x l → final ≡ l
    stands-found right l h =
        ap (final_letter (superseding_of σ.withdrawals)) (named-found right l h) ∙ final-is σ.k few σ.withdrawals withdrawals l h.named h.letter h.finally

-- a name has one letter
pub known-length : (σ : Sheet) {names : List (List ℕ)} {letters : List ℕ} → Known σ names letters → length letters ≡ length names
known-length σ none = refl
known-length σ (more s k) = ap suc (known-length σ k)

-- every letter of a plan is one of the sheet's
module _ (σ : Sheet) (withdrawals : WithdrawalsRight σ.k 0 σ.withdrawals) where
  pub known-below : {names : List (List ℕ)} {letters : List ℕ} → Known σ names letters → (i : ℕ) → i < length letters → get_or letters i 0 < σ.k
  known-below none i h = absurd (omega arith)
  known-below (more {x} {l} s k) zero h = stands-letter σ withdrawals x l s
  known-below (more s k) (suc i) h = known-below k i (omega arith)
