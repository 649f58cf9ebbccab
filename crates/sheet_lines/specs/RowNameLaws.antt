-- A name in a row, byte by byte. Assumes nothing.
use Rattle.std.specs.Prelude.{ℕ, suc, ◌+◌, ◌-◌, ◌*◌, ◌≤◌, ◌<◌, ◌≡◌, List, ◌∷◌, length, get_or, take, drop}
use Rattle.std.proofs.Common.{ap, arith, add-zero, sub-eq-zero_of_le, drop-cons}
use Rattle.text.specs.Bytes.{stretch}
use Rattle.lists.specs.LeftLaws.{left-more}
use Rattle.lists.specs.Search.{leading}
use Rattle.lists.specs.SearchLaws.{leading-stop, leading-more, leading-first}
use Rattle.sheet_lines.specs.RowName.{row_name}

pub row-name-is : (rows : List ℕ) (l n : ℕ) → n ≡ length (row_name rows l) → stretch rows (24 * l) (24 * l + n) ≡ row_name rows l
row-name-is rows l n e =
    let f : 24 * l + n - 24 * l ≡ length (row_name rows l) = omega arith in
    rw f (leading-first (drop (24 * l) rows) 24)

-- what is left of a row from its byte i on
abbrev pub rest_of : List ℕ → ℕ → ℕ → List ℕ
rest_of rows l i = leading (take (24 - i) (drop (24 * l + i) rows))

module _ (rows : List ℕ) (l i : ℕ) (fits : 24 * l + 24 ≤ length rows) where
  rest-cons : i < 24 → take (24 - i) (drop (24 * l + i) rows) ≡ get_or rows (24 * l + i) 0 ∷ take (24 - (i + 1)) (drop (24 * l + (i + 1)) rows)
  rest-cons h =
      let f : 24 * l + (i + 1) ≡ suc (24 * l + i) = omega arith in
      let g : 24 * l + i < length rows = omega arith in
      rw (drop-cons rows (24 * l + i) 0, left-more h, f)

  pub rest-zero : i < 24 → get_or rows (24 * l + i) 0 ≡ 0 → length (rest_of rows l i) ≡ 0
  rest-zero h z = rw (rest-cons h) (ap length (leading-stop _ _ z))

  pub rest-byte : i < 24 → (get_or rows (24 * l + i) 0 ≡ 0 → ⊥) → length (rest_of rows l i) ≡ suc (length (rest_of rows l (i + 1)))
  rest-byte h z = rw (rest-cons h) (ap length (leading-more _ _ z))

  pub rest-none : 24 ≤ i → length (rest_of rows l i) ≡ 0
  unfolding leading
  rest-none h = rw (sub-eq-zero_of_le h)

pub rest-whole : (rows : List ℕ) (l : ℕ) → rest_of rows l 0 ≡ row_name rows l
rest-whole rows l = rw add-zero
