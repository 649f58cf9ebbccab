-- The letter that a name stands for is the one that finally stands for the first letter whose composed name is the name's; no letter where
-- there is no such name. Assumes nothing.
use Rattle.std.specs.Prelude.{ℕ, zero, suc, ◌≤◌, ◌<◌, ◌≡◌, refl, List, [], ◌∷◌, ◌++◌, map, length, get_or}
use Rattle.std.proofs.Common.{sym, subst, ◌∙◌, arith}
use Rattle.std.proofs.lemmas.List.{length-map}
use Rattle.names.specs.Name.{IsName, compose}
use Rattle.name_rows.specs.Rows.{FirstName}
use Rattle.name_rows.specs.LetterLaws.{composed-at}
use Rattle.superseding.specs.Superseding.{final_letter}
use Rattle.format.specs.Format.{Sheet, Withdrawal, NamesRight, WithdrawalsRight}
use Rattle.format.specs.StandsFor.{Finally, StandsFor, SameLetters, itself}
use Rattle.format.specs.Withdrawals.{superseding_of}
use Rattle.format.proofs.FinallyLaws.{finally-in-force, finally-letter, finally-final}

module _ (σ : Sheet) (all : length σ.names ≡ σ.k) (x : List ℕ) (r : ℕ) (f : FirstName (map compose σ.names) (compose x) r) where
  pub stands-for : σ.k ≤ 8 → WithdrawalsRight σ.k 0 σ.withdrawals → IsName x → r < σ.k → StandsFor σ x (final_letter (superseding_of σ.withdrawals) r)
  stands-for few right is h = record {
    named = r;
    letter = h;
    is_name = is;
    same = sym (composed-at σ.names r) ∙ f.is (omega (arith, length-map σ.names compose));
    finally = finally-final σ.k few σ.withdrawals right r h;
  }

  pub stands-none : σ.k ≤ r → (l : ℕ) → StandsFor σ x l → ⊥
  stands-none h l g = f.first g.named (omega (arith, g.letter)) (composed-at σ.names g.named ∙ g.same)

-- it is a letter of the sheet
pub stands-letter : (σ : Sheet) → WithdrawalsRight σ.k 0 σ.withdrawals → (x : List ℕ) (l : ℕ) → StandsFor σ x l → l < σ.k
stands-letter σ right x l s = finally-letter σ.k σ.withdrawals right s.finally s.letter

-- a name of a sheet, by its letter
pub name-at : (earlier names : List (List ℕ)) → NamesRight earlier names → (l : ℕ) → l < length names → IsName (get_or names l [])
name-at earlier [] right l h = absurd (omega arith)
name-at earlier (x ∷ xs) right zero h = right.0
name-at earlier (x ∷ xs) right (suc l) h = name-at (earlier ++ (x ∷ [])) xs right.2 l (omega arith)

-- THE NEW NAME of an old one: the name of the letter that it stands for stands for that letter itself
pub stands-new : (σ : Sheet) → length σ.names ≡ σ.k → NamesRight [] σ.names → WithdrawalsRight σ.k 0 σ.withdrawals
    → (x : List ℕ) (l : ℕ) → StandsFor σ x l → StandsFor σ (get_or σ.names l []) l
stands-new σ all names right x l s =
    let h = stands-letter σ right x l s in
    record { named = l; letter = h; is_name = name-at [] σ.names names l (omega arith); same = refl; finally = itself (finally-in-force s.finally) }

-- A NAME GOES BY THE LETTERS ALONE: it stands for the same letter on every sheet that has these
pub same-letters-back : {σ τ : Sheet} → SameLetters σ τ → SameLetters τ σ
same-letters-back same = record { count = sym same.count; names = sym same.names; withdrawals = sym same.withdrawals }

pub stands_alike : {σ τ : Sheet} → SameLetters σ τ → {x : List ℕ} {l : ℕ} → StandsFor σ x l → StandsFor τ x l
stands_alike same {x} {l} h = record {
  named = h.named;
  letter = subst (λ (k : ℕ). h.named < k) same.count h.letter;
  is_name = h.is_name;
  same = subst (λ (names : List (List ℕ)). compose (get_or names h.named []) ≡ compose x) same.names h.same;
  finally = subst (λ (ws : List Withdrawal). Finally ws l h.named) same.withdrawals h.finally;
}
