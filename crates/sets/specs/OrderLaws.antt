-- A set with fewer members is a smaller number, and the first n numbers as a set. Assumes nothing.
use Rattle.std.specs.Prelude.{ℕ, zero, suc, ◌+◌, ◌-◌, ◌/◌, ◌%◌, ◌^◌, ◌≤◌, ◌<◌, ◌≡◌, ◌↔◌}
use Rattle.std.proofs.Common.{sym, ap, ◌∙◌, arith, shr-shr}
use Rattle.std.proofs.Math.Arith.{bin_ind}
use Rattle.sets.specs.Sets.{bit, Member}
use Rattle.sets.specs.SetLaws.{bit-half, bit-first, bit-lt, bit-out, member-lt, all-members}

abbrev Part : ℕ → ℕ → Type 0
Part x y = (q : ℕ) → Member x q → Member y q

part-half : (x y : ℕ) → Part x y → Part (x / 2) (y / 2)
part-half x y h q m = sym (bit-half y q) ∙ h (suc q) (bit-half x q ∙ m)

part-first : (x y : ℕ) → Part x y → x % 2 ≤ y % 2
part-first x y h = by (x % 2) (bit-first x)
  where
    by : (b : ℕ) → bit x 0 ≡ b → b ≤ y % 2
    by zero e = omega arith
    by (suc zero) e = let m : y % 2 ≡ 1 = sym (bit-first y) ∙ h 0 e in omega arith
    by (suc (suc b)) e = absurd (omega (arith, bit-lt x 0))

part-le : (x y : ℕ) → Part x y → x ≤ y
part-le =
    bin_ind (λ x. (y : ℕ) → Part x y → x ≤ y) (λ y h. omega arith)
    (λ x ih y h. let a = part-first x y h in let b = ih (y / 2) (part-half x y h) in omega arith)

-- y has the members of x and q besides
pub part-less : (q x y : ℕ) → ((r : ℕ) → Member x r → Member y r) → Member y q → (Member x q → ⊥) → x < y
part-less zero x y h m f =
    let a : x % 2 ≡ 0 = sym (bit-first x) ∙ bit-out x 0 f in
    let b : y % 2 ≡ 1 = sym (bit-first y) ∙ m in
    let c = part-le (x / 2) (y / 2) (part-half x y h) in
    omega arith
part-less (suc q) x y h m f =
    let a = part-less q (x / 2) (y / 2) (part-half x y h) (sym (bit-half y q) ∙ m) (λ g. f (bit-half x q ∙ g)) in
    omega arith

bit-shr : (x m q : ℕ) → bit (x / 2 ^ m) q ≡ bit x (m + q)
unfolding bit
bit-shr x m q = ap (◌% 2) (shr-shr x m q)

-- all sixteen numbers, moved down
pub below-members : (n : ℕ) → n ≤ 16 → (q : ℕ) → Member (65535 / 2 ^ (16 - n)) q ↔ (q < n)
below-members n l q = (
  λ h. let k = member-lt 65535 16 (16 - n + q) (omega arith) (sym (bit-shr 65535 (16 - n) q) ∙ h) in omega arith,
  λ h. bit-shr 65535 (16 - n) q ∙ all-members (16 - n + q) (omega arith),
)
