-- What rows tell of the names that they hold, and what a name stored in a row leaves. Assumes nothing.
use Rattle.std.specs.Prelude.{ℕ, ◌+◌, ◌*◌, ◌≤◌, ◌≡◌, refl, List, [], ◌∷◌, ◌++◌, length, get_or, take, drop}
use Rattle.std.proofs.Common.{sym, ◌∙◌, ap, arith, length-append, length-take-le, drop_at, below_more}
use Rattle.std.proofs.Math.ListN.{get_or-append}
use Rattle.std.proofs.lemmas.List.Edits.{sets, sets-eq}
use Rattle.std.proofs.Math.Seq.{get_or-append_seam}
use Rattle.names.specs.Name.{IsName}
use Rattle.gate.specs.Gate.{padded}
use Rattle.gate.specs.GateLaws.{padded-length}
use Rattle.lists.specs.StoreLaws.{part-stored, part-kept}
use Rattle.name_rows.specs.RowLaws.{padded-same}
use Rattle.name_rows.specs.Rows.{RowIs, HoldNames, OnlyRow, FirstLike, FirstName}

-- NAMES BY THEIR ROWS

-- the first row that is like the row of x tells the first letter whose name x is
first-name :
    (names : List (List ℕ)) (rows : List ℕ) (count : ℕ) (x : List ℕ) (l : ℕ) →
    length names ≡ count → HoldNames names rows → RowIs rows count x → FirstLike rows count l → FirstName names x l
first-name names rows count x l n h k f = record {
  most = let m = f.most in omega arith;
  is = λ b. padded-same (get_or names l []) x (h l b).is_name k.is_name (sym (h l b).is ∙ (f.like ∙ k.is));
  first = λ i b e.
      f.first i b
      ((h i (let m = f.most in omega arith)).is ∙ (ap (padded 24) e ∙ sym k.is));
}

-- ONE ROW WRITTEN, whatever the rows hold

module _ (rows : List ℕ) (l : ℕ) (x : List ℕ) (fits : 24 * l + 24 ≤ length rows) (most : length x ≤ 24) where
  -- what stands behind the row stays
  pub rest-still : drop (24 * (l + 1)) (sets rows (24 * l) (padded 24 x)) ≡ drop (24 * (l + 1)) rows
  rest-still =
      let size = padded-length 24 x most in
      let front : length (take (24 * l) rows ++ padded 24 x) ≡ 24 * (l + 1) =
      length-append (take (24 * l) rows) (padded 24 x) ∙ omega (arith, length-take-le (24 * l) rows (omega arith)) in
      let end : 24 * l + length (padded 24 x) ≡ 24 * (l + 1) = omega arith in
      rw (sets-eq (padded 24 x) rows (24 * l) (omega arith))
      (drop_at (take (24 * l) rows ++ padded 24 x) (drop (24 * l + length (padded 24 x)) rows) (24 * (l + 1)) front
      ∙ ap (λ (i : ℕ). drop i rows) end)

  pub only-stored : (new : List ℕ) → new ≡ sets rows (24 * l) (padded 24 x) → OnlyRow l rows new
  only-stored new e = record {
    ahead = ap (take (24 * l)) e ∙ part-kept (24 * l) rows (padded 24 x) (24 * l) 0 (omega arith);
    behind = ap (drop (24 * (l + 1))) e ∙ rest-still;
  }

pub only_none : (k : ℕ) (rows : List ℕ) → OnlyRow k rows rows
only_none k rows = record { ahead = refl; behind = refl }

-- the same row once more
pub only-again : {k : ℕ} {old mid new : List ℕ} → OnlyRow k old mid → OnlyRow k mid new → OnlyRow k old new
only-again f g = record { ahead = g.ahead ∙ f.ahead; behind = g.behind ∙ f.behind }

-- ONE ROW MORE

module _ (names : List (List ℕ)) (rows : List ℕ) (l : ℕ) (x : List ℕ) (n : length names ≡ l) (fits : 24 * l + 24 ≤ length rows)
    (h : HoldNames names rows) (fx : IsName x) where
  row-there : RowIs (sets rows (24 * l) (padded 24 x)) l x
  row-there = record { is_name = fx; is = part-stored 24 rows (padded 24 x) (24 * l) (padded-length 24 x fx.most) fits }

  pub holds-still : HoldNames names (sets rows (24 * l) (padded 24 x))
  holds-still i b = record {
    is_name = (h i b).is_name;
    is = part-kept 24 rows (padded 24 x) (24 * l) (24 * i) (omega arith) ∙ (h i b).is;
  }

  pub holds_more : HoldNames (names ++ (x ∷ [])) (sets rows (24 * l) (padded 24 x))
  holds_more i b =
      below_more (λ (j : ℕ). RowIs (sets rows (24 * l) (padded 24 x)) j (get_or (names ++ (x ∷ [])) j [])) (length names)
      (λ j c. rw (get_or-append names (x ∷ []) [] j c) (holds-still j c))
      (rw (get_or-append_seam names x [] [], n) row-there)
      i (rw (length-append names (x ∷ [])) at b)

  -- the first row like the new one tells the letter
  pub row-tells : (r : ℕ) → FirstLike (sets rows (24 * l) (padded 24 x)) l r → FirstName names x r
  row-tells r f = first-name names (sets rows (24 * l) (padded 24 x)) l x r n holds-still row-there f
