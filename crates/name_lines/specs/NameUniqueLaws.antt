-- A text begins with the name lines of one list of so many names at most. Assumes nothing.
use Rattle.std.specs.Prelude.{ℕ, suc, ◌+◌, ◌≤◌, ◌<◌, ◌≡◌, refl, List, [], ◌∷◌, ◌++◌, length, Some}
use Rattle.std.proofs.Common.{sym, ap, ap₂, ◌∙◌, append_assoc, arith}
use Rattle.text.specs.Bytes.{stretch}
use Rattle.lists.specs.AppendLaws.{append-same}
use Rattle.names.specs.Name.{IsName}
use Rattle.format.specs.Format.{name_line, name_lines, NamesRight}
use Rattle.format.proofs.FormatLaws.{name-length}
use Rattle.name_lines.specs.NameLaws.{name-line-of}

-- ONE LINE at the top of a text is one line
module _ (r t : List ℕ) where
  name-same : (l : ℕ) (x y : List ℕ) → l < 1000 → IsName x → IsName y → name_line l x ++ r ≡ name_line l y ++ t → (x ≡ y) × (r ≡ t)
  name-same l x y hl h g e =
      let s : List ℕ = name_line l x ++ r in
      let a = name-line-of s 0 l x r hl h refl in
      let b = name-line-of s 0 l y t hl g e in
      let f : Some (0 + 5 + length x) ≡ Some (0 + 5 + length y) = sym a.0 ∙ b.0 in
      let d : 0 + 5 + length x ≡ 0 + 5 + length y = cc in
      let c : length y ≡ length x = omega arith in
      (sym a.1 ∙ (ap (stretch s (0 + 5)) d ∙ b.1), (append-same (name_line l x) (name_line l y) r t (name-length l x ∙ (ap (6 +◌) (sym c) ∙ sym (name-length l y))) e).1)

-- AS MANY LINES are the same lines
pub names_same :
    (l : ℕ) (earlier other xs ys : List (List ℕ)) (r t : List ℕ) → l + length xs ≤ 1000 → length xs ≡ length ys → NamesRight earlier xs → NamesRight other ys →
    name_lines l xs ++ r ≡ name_lines l ys ++ t → (xs ≡ ys) × (r ≡ t)
unfolding name_lines
names_same l earlier other [] [] r t hl c h g e = (refl, e)
names_same l earlier other [] (y ∷ ys) r t hl c h g e = absurd (omega arith)
names_same l earlier other (x ∷ xs) [] r t hl c h g e = absurd (omega arith)
names_same l earlier other (x ∷ xs) (y ∷ ys) r t hl c h g e =
    let f : name_line l x ++ (name_lines (suc l) xs ++ r) ≡ name_line l y ++ (name_lines (suc l) ys ++ t) = sym (append_assoc (name_line l x) (name_lines (suc l) xs) r) ∙ (e ∙ append_assoc (name_line l y) (name_lines (suc l) ys) t) in
    let (a, b) = name-same (name_lines (suc l) xs ++ r) (name_lines (suc l) ys ++ t) l x y (omega arith) h.0 g.0 f in
    let (p, q) = names_same (suc l) (earlier ++ (x ∷ [])) (other ++ (y ∷ [])) xs ys r t (omega arith) (omega arith) h.2 g.2 b in
    (ap₂ ◌∷◌ a p, q)
