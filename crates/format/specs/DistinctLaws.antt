-- A name is distinct from others exactly if it is none of theirs by number, and so by a search among them. Assumes nothing.
use Rattle.std.specs.Prelude.{ℕ, zero, suc, ◌<◌, ◌≡◌, List, [], ◌∷◌, map, length, get_or}
use Rattle.std.proofs.Common.{sym, ◌∙◌, arith}
use Rattle.std.proofs.lemmas.List.{length-map}
use Rattle.names.specs.Name.{compose}
use Rattle.name_rows.specs.Rows.{letter_of}
use Rattle.name_rows.specs.LetterLaws.{letter-first, letter-is, composed-at}
use Rattle.format.specs.Format.{DistinctFrom}

module _ (x : List ℕ) where
  pub distinct-at : (ys : List (List ℕ)) → DistinctFrom ys x → (i : ℕ) → i < length ys → compose (get_or ys i []) ≡ compose x → ⊥
  distinct-at [] d i h e = omega arith
  distinct-at (y ∷ ys) d zero h e = d.0 e
  distinct-at (y ∷ ys) d (suc i) h e = distinct-at ys d.1 i (omega arith) e

  distinct-all : (ys : List (List ℕ)) → ((i : ℕ) → i < length ys → compose (get_or ys i []) ≡ compose x → ⊥) → DistinctFrom ys x
  distinct-all [] f = tt
  distinct-all (y ∷ ys) f = (f 0 (omega arith), distinct-all ys (λ i h. f (suc i) (omega arith)))

  pub distinct-letter : (ys : List (List ℕ)) → DistinctFrom ys x → letter_of (map compose ys) (compose x) ≡ length (map compose ys)
  distinct-letter ys d =
      letter-is (map compose ys) (compose x) (length (map compose ys))
      (record {
        most = omega arith;
        is = λ h. absurd (omega arith);
        first = λ i h e. distinct-at ys d i (omega (arith, length-map ys compose)) (sym (composed-at ys i) ∙ e);
      })

  pub letter-distinct : (ys : List (List ℕ)) → letter_of (map compose ys) (compose x) ≡ length (map compose ys) → DistinctFrom ys x
  letter-distinct ys e =
      distinct-all ys (λ i h f. (letter-first (map compose ys) (compose x)).first i (omega (arith, e, length-map ys compose)) (composed-at ys i ∙ f))
