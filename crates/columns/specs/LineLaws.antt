-- A line of numbers is read exactly if it is written there, however many they are; how long it is, and how it is stored part by part. Assumes nothing.
use Rattle.std.specs.Prelude.{ℕ, suc, ◌+◌, ◌*◌, ◌≡◌, refl, true, List, [], ◌∷◌, ◌++◌, length, set, drop}
use Rattle.std.proofs.Common.{sym, ◌∙◌, ap, append_assoc, length-append, arith}
use Rattle.std.proofs.lemmas.List.Edits.{sets}
use Rattle.lists.specs.StoreLaws.{sets-append, sets-part}
use Rattle.text.specs.Bytes.{lf}
use Rattle.text.specs.BytesLaws.{stretch-rest}
use Rattle.columns.specs.Column.{column}
use Rattle.columns.specs.ColumnLaws.{column-length}
use Rattle.columns.specs.Line.{fields, numbers_line, Narrow, FieldsAt, NumbersAt}
use Rattle.columns.specs.NumberLaws.{column-of, number_is}
use Rattle.text.specs.Word.{no_zero}
use Rattle.text.specs.WordLaws.{byte-is, goes_on, starts-word, starts_is}

-- LENGTHS

fields-length : (vs rest : List ℕ) → length (fields vs rest) ≡ 3 * length vs + length rest
fields-length [] rest = omega arith
fields-length (v ∷ vs) rest = omega (arith, length-append (column 3 v) (fields vs rest), column-length 3 v, fields-length vs rest)

pub numbers_line-length : (opening vs : List ℕ) → length (numbers_line opening vs) ≡ length opening + (3 * length vs + 1)
numbers_line-length opening vs = length-append opening (fields vs (lf ∷ [])) ∙ ap (length opening +◌) (fields-length vs (lf ∷ []))

-- A LINE IN PARTS: its opening, its numbers, and what stands behind it

fields-append : (vs x rest : List ℕ) → fields vs x ++ rest ≡ fields vs (x ++ rest)
fields-append [] x rest = refl
fields-append (v ∷ vs) x rest = append_assoc (column 3 v) (fields vs x) rest ∙ ap (column 3 v ++◌) (fields-append vs x rest)

numbers-parted : (opening vs rest : List ℕ) → numbers_line opening vs ++ rest ≡ opening ++ fields vs (lf ∷ rest)
numbers-parted opening vs rest = append_assoc opening (fields vs (lf ∷ [])) rest ∙ ap (opening ++◌) (fields-append vs (lf ∷ []) rest)

-- STORED PART BY PART, a line is stored as a whole

-- an output with numbers stored one by one from `at` on, and LF behind them
abbrev pub stored_fields : List ℕ → ℕ → List ℕ → List ℕ
stored_fields out at [] = set out at lf
stored_fields out at (v ∷ vs) = stored_fields (sets out at (column 3 v)) (at + 3) vs

stored-fields : (out : List ℕ) (at : ℕ) (vs : List ℕ) → stored_fields out at vs ≡ sets out at (fields vs (lf ∷ []))
stored-fields out at [] = refl
stored-fields out at (v ∷ vs) =
    stored-fields (sets out at (column 3 v)) (at + 3) vs ∙ sym (sets-part (column 3 v) (fields vs (lf ∷ [])) out at (at + 3) (ap (at +◌) (column-length 3 v)))

pub numbers-stored : (out : List ℕ) (at : ℕ) (opening vs : List ℕ) → stored_fields (sets out at opening) (at + length opening) vs ≡ sets out at (numbers_line opening vs)
numbers-stored out at opening vs = stored-fields (sets out at opening) (at + length opening) vs ∙ sym (sets-append opening (fields vs (lf ∷ [])) out at)

-- THE LAW, one way

fields-of : (s : List ℕ) (at : ℕ) (vs rest : List ℕ) → Narrow vs → drop at s ≡ fields vs (lf ∷ rest) → FieldsAt s at vs
fields-of s at [] rest h e = (goes_on s at lf rest e).0
fields-of s at (v ∷ vs) rest h e =
    let (here, behind) = column-of s at v (fields vs (lf ∷ rest)) h.0 e in
    (here, fields-of s (at + 3) vs rest h.1 behind)

-- and the other
fields-is : (s : List ℕ) (at : ℕ) (vs : List ℕ) → FieldsAt s at vs → Narrow vs × (drop at s ≡ fields vs (lf ∷ drop (at + (3 * length vs + 1)) s))
fields-is s at [] h = (tt, byte-is s at lf (omega arith) h)
fields-is s at (v ∷ vs) h =
    let (small, here) = number_is s at v h.0 in
    let (later, behind) = fields-is s (at + 3) vs h.1 in
    let p : at + 3 + (3 * length vs + 1) ≡ at + (3 * suc (length vs) + 1) = omega arith in
    ((small, later), here ∙ ap (column 3 v ++◌) (rw p at behind))

module _ (s : List ℕ) (at : ℕ) (opening vs : List ℕ) where
  pub numbers_of-at : (rest : List ℕ) → Narrow vs → drop at s ≡ numbers_line opening vs ++ rest → NumbersAt s at opening vs
  numbers_of-at rest h e =
      let f = e ∙ numbers-parted opening vs rest in
      record { starts = starts-word s at opening (fields vs (lf ∷ rest)) f; numbers = fields-of s (at + length opening) vs rest h (stretch-rest s at opening (fields vs (lf ∷ rest)) f) }

  pub numbers-is : no_zero opening ≡ true → NumbersAt s at opening vs → Narrow vs × (drop at s ≡ numbers_line opening vs ++ drop (at + length (numbers_line opening vs)) s)
  numbers-is z h =
      let (narrow, behind) = fields-is s (at + length opening) vs h.numbers in
      let p : at + length opening + (3 * length vs + 1) ≡ at + length (numbers_line opening vs) = omega (arith, numbers_line-length opening vs) in
      (narrow, starts_is s at opening z h.starts ∙ (ap (opening ++◌) (rw p at behind) ∙ sym (numbers-parted opening vs (drop (at + length (numbers_line opening vs)) s))))
