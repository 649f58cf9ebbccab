-- The letter that finally stands for a name, among names in rows. Assumes nothing.
use Rattle.std.specs.Prelude.{ℕ, ◌+◌, ◌*◌, ◌≤◌, ◌<◌, ◌≡◌, List, map}
use Rattle.std.proofs.Common.{sym, ap, subst, ◌∙◌, arith}
use Rattle.names.specs.Name.{IsName, compose}
use Rattle.name_rows.specs.Rows.{FirstName, OnlyRow}
use Rattle.superseding.specs.Superseding.{superseding_in, final_letter}
use Rattle.superseding.specs.SupersedingLaws.{cells-behind}
use Rattle.format.specs.Format.{Sheet}
use Rattle.parser.specs.LettersOf.{LettersIn}
use Rattle.format.specs.StandsFor.{StandsFor}
use Rattle.format.specs.Withdrawals.{superseding_of}
use Rattle.format.proofs.StandsForLaws.{stands-for, stands-none}

module _ {σ : Sheet} {k : ℕ} {rows : List ℕ} (h : LettersIn σ k rows) (name : List ℕ) (r : ℕ) (f : FirstName (map compose σ.names) (compose name) r) where
  -- in the rows with the name in row k, which leaves the superseding letters
  pub letter-found : {new : List ℕ} {l : ℕ} → k ≤ 8 → OnlyRow k rows new → IsName name → r < k → l ≡ final_letter (superseding_in new) r → StandsFor σ name l
  letter-found {new} few only is b e =
      let same = h.letters in
      let cells : superseding_in new ≡ superseding_of σ.withdrawals = cells-behind (24 * (k + 1)) rows new (omega arith) only.behind ∙ h.superseding in
      subst (StandsFor σ name) (sym (e ∙ ap (λ (cells : List ℕ). final_letter cells r) cells))
      (stands-for σ (h.all-names ∙ sym h.letters) name r f (omega arith) h.withdrawals is (omega arith))

  pub letter-nowhere : k ≤ r → (l : ℕ) → StandsFor σ name l → ⊥
  letter-nowhere b = stands-none σ (h.all-names ∙ sym h.letters) name r f (let k = h.letters in omega arith)
