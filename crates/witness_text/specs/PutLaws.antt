-- The lines of a witness: how long they are, and how they are written one behind the other. Assumes nothing.
use Rattle.std.specs.Prelude.{ℕ, ◌+◌, ◌*◌, ◌≤◌, ◌<◌, ◌≡◌, refl, List, [], ◌∷◌, ◌++◌, length, get_or}
use Rattle.std.proofs.Common.{sym, ap, ◌∙◌, ⊎_elim, arith, lt-ltb, le-ltb}
use Rattle.std.proofs.Math.ListN.{length-append}
use Rattle.std.proofs.lemmas.List.Edits.{sets}
use Rattle.lists.specs.ChoiceLaws.{lt-or-ge}
use Rattle.lists.specs.StoreLaws.{sets-append}
use Rattle.text.specs.Bytes.{space}
use Rattle.columns.specs.Column.{column}
use Rattle.columns.specs.ColumnLaws.{column-length}
use Rattle.text.specs.PiecesLaws.{pieces-most}
use Rattle.lent.specs.Lent.{WitnessTables}
use Rattle.witness_text.specs.WitnessText.{spaced, cells_line, witness_text}
use Rattle.witness_text.specs.Put.{spaced_cells, WrittenAt}

-- ONE BEHIND THE OTHER

pub written_one : (text : List ℕ) {b c : List ℕ} {at : ℕ} → c ≡ sets b at text → WrittenAt text b at c (at + length text)
written_one text e = record { stored = e; behind-it = refl }

pub written-append : {t u b c d : List ℕ} {at p q : ℕ} → WrittenAt t b at c p → WrittenAt u c p d q → WrittenAt (t ++ u) b at d q
written-append {t} {u} {b} {c} {d} {at} {p} {q} x y = record {
  stored = y.stored ∙ rw (x.stored, x.behind-it) (sym (sets-append t u b at));
  behind-it = omega (arith, x.behind-it, y.behind-it, length-append t u);
}

-- A CELL

pub spaced-one : {v : ℕ} → v < 10 → spaced v ≡ space ∷ column 1 v
unfolding spaced
spaced-one {v} h = simp (lt-ltb v 10 h)

pub spaced-two : {v : ℕ} → 10 ≤ v → spaced v ≡ space ∷ column 2 v
unfolding spaced
spaced-two {v} h = simp (le-ltb v 10 h)

-- in one column, or in two
pub ruleset spaced_in = (spaced-one, spaced-two)

pub spaced-length : (v w : ℕ) → spaced v ≡ space ∷ column w v → length (spaced v) ≡ 1 + w
spaced-length v w e = ap length e ∙ omega (arith, column-length w v)

spaced-most : (v : ℕ) → length (spaced v) ≤ 3
spaced-most v =
    ⊎_elim (λ (h : v < 10). omega (arith, spaced-length v 1 (spaced-one h))) (λ (h : 10 ≤ v). omega (arith, spaced-length v 2 (spaced-two h))) (lt-or-ge v 10)

pub cell-written : (v w : ℕ) {b c d : List ℕ} {at : ℕ} → spaced v ≡ space ∷ column w v → c ≡ sets b at (space ∷ []) → d ≡ sets c (at + 1) (column w v)
    → WrittenAt (spaced v) b at d (at + 1 + w)
cell-written v w {b} {c} {d} {at} e x y =
    let z : WrittenAt (space ∷ column w v) b at d (at + 1 + length (column w v)) = written-append (written_one (space ∷ []) x) (written_one (column w v) y) in
    record { stored = z.stored ∙ rw e; behind-it = omega (arith, spaced-length v w e) }

-- LENGTHS

cells-most : (table : List ℕ) (count : ℕ) → length (spaced_cells table count) ≤ count * 3
cells-most table count = pieces-most (λ i. spaced (get_or table i 0)) 3 (λ i. spaced-most (get_or table i 0)) 0 count

module _ (name table : List ℕ) (count : ℕ) where
  pub cells-line-length : length (cells_line name table count) ≡ length name + (length (spaced_cells table count) + 1)
  unfolding cells_line
  cells-line-length = simp length-append

  line-most : length (cells_line name table count) ≤ length name + (count * 3 + 1)
  line-most = omega (arith, cells-line-length, cells-most table count)

module _ (w : WitnessTables) (t : ℕ) where
  -- its three lines
  abbrev first : List ℕ
  first = cells_line (87 ∷ 79 ∷ 82 ∷ 68 ∷ []) w.word t

  abbrev second : List ℕ
  second = cells_line (87 ∷ 65 ∷ 76 ∷ 75 ∷ []) w.one (t + 1)

  abbrev third : List ℕ
  third = cells_line (87 ∷ 65 ∷ 76 ∷ 75 ∷ []) w.other (t + 1)

  pub witness-length : length (witness_text w t) ≡ length first + (length second + length third)
  unfolding witness_text
  witness-length = simp length-append

  pub witness-most : t ≤ 136 → length (witness_text w t) ≤ 1245
  witness-most h =
      omega (arith, witness-length, line-most (87 ∷ 79 ∷ 82 ∷ 68 ∷ []) w.word t, line-most (87 ∷ 65 ∷ 76 ∷ 75 ∷ []) w.one (t + 1), line-most (87 ∷ 65 ∷ 76 ∷ 75 ∷ []) w.other (t + 1))
