-- In a sheet file the name of a letter is found again as it is spelled: by induction along the name lines. Assumes nothing.
use Prim.Native.Nat.{ℕ, zero, suc, ◌+◌, ◌-◌, ◌≤◌, ◌<◌}
use Rattle.std.specs.Prelude.{◌≡◌, List, [], ◌∷◌, ◌++◌, length, get_or, drop, None, Some}
use Rattle.std.proofs.Math.Path.{ap}
use Rattle.std.proofs.Common.{◌∙◌, append_assoc}
use native.Mathlib.Omega.{arith}
use Rattle.text.specs.Bytes.{lf}
use Rattle.text.specs.BytesLaws.{stretch-is, stretch-rest}
use Rattle.names.specs.Scan.{name_end_at}
use Rattle.names.specs.ScanLaws.{name-ends}
use Rattle.format.specs.Format.{Sheet, FileIs, NamesRight, head_line, name_line, name_lines, withdrawal_lines, state_lines, transition_lines, end_line}
use Rattle.format.proofs.FormatLaws.{head-length, lines-parted, name-behind, name-rest}
use Rattle.letters.specs.Spelling.{line_below, spelled_at, spelling}

names-spelled :
    (names earlier : List (List ℕ)) (s rest : List ℕ) (at l : ℕ) → NamesRight earlier names → drop at s ≡ name_lines l names ++ rest →
    (i : ℕ) → i < length names → spelled_at s (line_below s at i) ≡ get_or names i []
unfolding name_lines spelled_at line_below
names-spelled [] earlier s rest at l right e i b = absurd (omega arith)
names-spelled (x ∷ xs) earlier s rest at l right e zero b =
    let f = name-behind s at l x (name_lines (suc l) xs ++ rest) (e ∙ append_assoc (name_line l x) (name_lines (suc l) xs) rest) in
    simp (name-ends s x (name_lines (suc l) xs ++ rest) (at + 5) right.0 f) (stretch-is s (at + 5) x (lf ∷ (name_lines (suc l) xs ++ rest)) f)
names-spelled (x ∷ xs) earlier s rest at l right e (suc i) b =
    let g = e ∙ append_assoc (name_line l x) (name_lines (suc l) xs) rest in
    let f = name-behind s at l x (name_lines (suc l) xs ++ rest) g in
    let h = name-rest s at l x (name_lines (suc l) xs ++ rest) g in
    simp (name-ends s x (name_lines (suc l) xs ++ rest) (at + 5) right.0 f)
    (names-spelled xs (earlier ++ (x ∷ [])) s rest (at + 5 + length x + 1) (suc l) right.2 h i (omega arith))

pub spelling-is : (s : List ℕ) (σ : Sheet) → FileIs s σ → (l : ℕ) → l < σ.k → spelling s l ≡ get_or σ.names l []
unfolding spelling
spelling-is s σ file l b =
    let rest = withdrawal_lines σ.withdrawals ++ (state_lines σ.edition 0 σ.states ++ (transition_lines σ.edition σ.transitions ++ end_line)) in
    let all = file.all-names in
    let h : drop 12 s ≡ name_lines 0 σ.names ++ rest = rw head-length at (stretch-rest s 0 (head_line σ.edition σ.n σ.k) (name_lines 0 σ.names ++ rest) (file.text ∙ lines-parted σ end_line)) in
    names-spelled σ.names [] s rest 12 0 file.right.names h l (omega arith)

-- A NAME LINE found again: `left` lines are to be passed
module _ (s : List ℕ) (at left : ℕ) where
  pub below_next : 0 < left → (e : ℕ) → name_end_at s (at + 5) ≡ Some e → line_below s at left ≡ line_below s (e + 1) (left - 1)
  unfolding line_below
  below_next h e b =
      let m : left ≡ suc (left - 1) = omega arith in
      ap (λ (n : ℕ). line_below s at n) m ∙ simp b

  pub line-below-none : 0 < left → name_end_at s (at + 5) ≡ None → line_below s at left ≡ at
  unfolding line_below
  line-below-none h b =
      let m : left ≡ suc (left - 1) = omega arith in
      rw m (simp b)

  pub below-done : left ≤ 0 → line_below s at left ≡ at
  unfolding line_below
  below-done h =
      let m : left ≡ 0 = omega arith in
      rw m
