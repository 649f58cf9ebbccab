-- One step of the definition of the name lines, which the loop goes along. Assumes nothing.
use Rattle.std.specs.Prelude.{ℕ, ◌+◌, ◌-◌, ◌*◌, ◌<◌, ◌≤◌, ◌≡◌, List, [], ◌∷◌, ◌++◌, length, drop, None, Some}
use Rattle.std.proofs.Math.Path.{sym}
use Rattle.std.proofs.Common.{◌∙◌, ap, subst, length-append, drop-drop, sub-eq-zero_of_le, arith, eq-eqb, ne_eqb}
use Rattle.std.proofs.lemmas.List.Edits.{sets}
use Rattle.name_lines.specs.NameLines.{name_line_at, names_at}
use Rattle.frame.specs.Phase.{refused, passed}
use Rattle.name_rows.specs.Rows.{letter_of, HoldNames, FirstLike}
use Rattle.lists.specs.LeftLaws.{left-more}
use Rattle.text.specs.Bytes.{stretch}
use Rattle.names.specs.Name.{compose}
use Rattle.gate.specs.Gate.{padded}
use Rattle.names.specs.NameLaws.{composed-name}
use Rattle.name_rows.specs.LetterLaws.{letter-is}
use Rattle.name_rows.specs.RowsLaws.{holds_more, rest-still, row-tells}
use Rattle.name_lines.specs.NameLaws.{name-line-is}

-- the name lines as far as they are read: the next one is line `line`, stands at `at` and is of letter l
-- the rows were `old`
pub record NamesSoFar (s : List ℕ) (k : ℕ) (old rows : List ℕ) (line at l : ℕ) : Type 0 where
  pub names : List (List ℕ)
  pub count : length names ≡ l
  pub goes : names_at s line at names (k - l) ≡ names_at s 2 12 [] k
  pub holds : HoldNames names rows
  pub behind : drop (24 * l) rows ≡ drop (24 * l) old

-- THE NAME LINES: l of k are read
module _ {s : List ℕ} {k : ℕ} {old rows : List ℕ} {line at l : ℕ} (z : NamesSoFar s k old rows line at l) where
  pub names-bad : l < k → name_line_at s at l ≡ None → names_at s 2 12 [] k ≡ refused 5 line
  unfolding names_at
  names-bad h b = sym z.goes ∙ rw (left-more h) (simp (z.count, b))

  pub names-done : k ≤ l → names_at s 2 12 [] k ≡ passed (record { names = z.names; at = at; line = line })
  unfolding names_at
  names-done h = sym z.goes ∙ rw (sub-eq-zero_of_le h)

-- a name stands in the row behind those before it, and row r is the first that is like it
pub record NameStored (s : List ℕ) (k : ℕ) (old rows : List ℕ) (line l e r : ℕ) : Type 0 where
  pub twice : (r ≡ l → ⊥) → names_at s 2 12 [] k ≡ refused 6 line
  pub more : r ≡ l → NamesSoFar s k old rows (line + 1) (e + 1) (l + 1)

-- rows that are the same from row l on are so from the next row on
row-less : (x y : List ℕ) (l : ℕ) → drop (24 * l) x ≡ drop (24 * l) y → drop (24 * (l + 1)) x ≡ drop (24 * (l + 1)) y
row-less x y l e =
    let k : 24 * (l + 1) ≡ 24 * l + 24 = omega arith in
    rw k (sym (drop-drop 24 (24 * l) x) ∙ (ap (drop 24) e ∙ drop-drop 24 (24 * l) y))

pub row-stored :
    {s : List ℕ} {k : ℕ} {old rows v : List ℕ} {line at l e r : ℕ} →
    NamesSoFar s k old rows line at l → l < k → name_line_at s at l ≡ Some e → 24 * l + 24 ≤ length rows →
    v ≡ sets rows (24 * l) (padded 24 (compose (stretch s (at + 5) e))) → FirstLike v l r → NameStored s k old v line l e r
unfolding names_at
row-stored {s} {k} {old} {rows} {v} {line} {at} {l} {e} {r} z h b fits stored like =
    let x = compose (stretch s (at + 5) e) in
    let name = composed-name (stretch s (at + 5) e) (name-line-is s at l e b).is_name in
    let letter : letter_of z.names x ≡ r =
    letter-is z.names x r
    (row-tells z.names rows l x z.count fits z.holds name r (subst (λ (v : List ℕ). FirstLike v l r) stored like)) in
    record {
      twice = λ d. sym z.goes ∙ rw (left-more h) (simp (z.count, b, ne_eqb _ _ (λ i. d (sym letter ∙ i))));
      more = λ d. record {
        names = z.names ++ (x ∷ []);
        count = simp length-append (omega (arith, z.count));
        goes = sym (rw (left-more h) (simp (z.count, b, eq-eqb _ _ (letter ∙ d)))) ∙ z.goes;
        holds = subst (λ (v : List ℕ). HoldNames (z.names ++ (x ∷ [])) v) (sym stored) (holds_more z.names rows l x z.count fits z.holds name);
        behind = ap (drop (24 * (l + 1))) stored ∙ (rest-still rows l x fits name.most ∙ row-less rows old l z.behind);
      };
    }
