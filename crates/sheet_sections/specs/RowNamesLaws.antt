-- The lines of the names, row by row. Assumes nothing.
use Rattle.std.specs.Prelude.{ℕ, zero, suc, ◌+◌, ◌-◌, ◌≤◌, ◌<◌, ◌≡◌, refl, List, [], ◌∷◌, ◌++◌, length, get_or}
use Rattle.std.proofs.Common.{sym, ap, ap₂, ◌∙◌, arith, add-zero, zero-add, sub-eq-zero_of_le, length-append}
use Rattle.std.proofs.Math.Numerals.{add-one}
use Rattle.text.specs.Pieces.{pieces}
use Rattle.lists.specs.LeftLaws.{left-more}
use Rattle.lists.specs.Search.{leading}
use Rattle.name_rows.specs.RowLaws.{leading-name}
use Rattle.name_rows.specs.Rows.{HoldNames}
use Rattle.format.specs.Format.{name_line, name_lines}
use Rattle.format.proofs.FormatLaws.{name-length}
use Rattle.sheet_lines.specs.RowName.{row_name}
use Rattle.sheet_sections.specs.RowNames.{row_names}

-- The lines of the names

module _ (rows : List ℕ) (k l : ℕ) where
  names-next : l < k → name_lines l (row_names rows l (k - l)) ≡ name_line l (row_name rows l) ++ name_lines (l + 1) (row_names rows (l + 1) (k - (l + 1)))
  unfolding name_lines row_names
  names-next h = rw (left-more h, add-one l)

  pub names-last : k ≤ l → name_lines l (row_names rows l (k - l)) ≡ []
  unfolding name_lines row_names
  names-last h = rw (sub-eq-zero_of_le h)

  pub names-length-next : l < k → length (name_lines l (row_names rows l (k - l))) ≡ 6 + length (row_name rows l) + length (name_lines (l + 1) (row_names rows (l + 1) (k - (l + 1))))
  names-length-next h = ap length (names-next h) ∙ simp (length-append, name-length)

-- the line of the name in row l
abbrev pub row_text : List ℕ → ℕ → List ℕ
row_text rows l = name_line l (row_name rows l)

pub names-pieces : (rows : List ℕ) (k l : ℕ) → name_lines l (row_names rows l k) ≡ pieces (row_text rows) l k
unfolding name_lines row_names pieces
names-pieces rows zero l = refl
names-pieces rows (suc k) l = ap (row_text rows l ++◌) (names-pieces rows k (suc l))

-- Rows that hold names

rows-from : (rows : List ℕ) (left l : ℕ) (names : List (List ℕ)) → length names ≡ left → ((i : ℕ) → i < left → row_name rows (l + i) ≡ get_or names i []) → row_names rows l left ≡ names
unfolding row_names
rows-from rows zero l [] e h = refl
rows-from rows zero l (x ∷ xs) e h = absurd (omega arith)
rows-from rows (suc left) l [] e h = absurd (omega arith)
rows-from rows (suc left) l (x ∷ xs) e h =
    ap₂ ◌∷◌ (ap (row_name rows) (sym (add-zero l)) ∙ h 0 (omega arith))
    (rows-from rows left (suc l) xs (omega arith) (λ i b. ap (row_name rows) (let f : suc l + i ≡ l + suc i = omega arith in f) ∙ h (suc i) (omega arith)))

-- the names in rows that hold some are those
pub rows-hold : (names : List (List ℕ)) (rows : List ℕ) (k : ℕ) → length names ≡ k → HoldNames names rows → row_names rows 0 k ≡ names
rows-hold names rows k e holds = rows-from rows k 0 names e (λ i b. ap (row_name rows) (zero-add i) ∙ name i (omega arith))
  where
    name : (i : ℕ) → i < length names → row_name rows i ≡ get_or names i []
    name i b = ap leading (holds i b).is ∙ leading-name (get_or names i []) (holds i b).is_name
