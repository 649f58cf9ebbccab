-- Unordered pairs of numbers below n are numbered without gaps, so that there are n (n + 1) / 2 of them. Assumes nothing.
use Rattle.std.specs.Prelude.{ℕ, zero, suc, ◌+◌, ◌*◌, ◌/◌, ◌≤◌, ◌<◌, min, max, ◌≡◌, refl, ◌⊎◌}
use Rattle.std.proofs.Common.{ap, inl, inr, arith}
use Rattle.std.proofs.Math.Decide.{dec_le, dec_lt}

-- 1 + 2 + .. + n
unfoldable pub triangle : ℕ → ℕ
triangle zero = 0
triangle (suc n) = triangle n + suc n

triangle-mono : (m n : ℕ) → m ≤ n → triangle m ≤ triangle n
unfolding triangle
triangle-mono zero n l = omega arith
triangle-mono (suc m) zero l = absurd (omega arith)
triangle-mono (suc m) (suc n) l = let a = triangle-mono m n (omega arith) in omega arith

twice : (n : ℕ) → triangle n + triangle n ≡ n * (n + 1)
unfolding triangle
twice zero = refl
twice (suc n) = let e = twice n in omega arith

pub triangle-is : (n : ℕ) → triangle n ≡ n * (n + 1) / 2
triangle-is n = let e = twice n in omega arith

triangle-16 : triangle 16 ≡ 136
unfolding triangle
triangle-16 = refl

pub triangle-most : (n : ℕ) → n ≤ 16 → triangle n ≤ 136
triangle-most n l = let e = triangle-mono n 16 l in omega (arith, triangle-16)

-- the number of the pair of q and r, in either order
pub pair_number : ℕ → ℕ → ℕ
pair_number q r = triangle (max q r) + min q r

pub pair_lt : (n q r : ℕ) → q < n → r < n → pair_number q r < triangle n
unfolding pair_number triangle
pair_lt n q r a b = let c = triangle-mono (suc (max q r)) n (omega arith) in omega arith

pub pair_same : (q r x y : ℕ) → pair_number q r ≡ pair_number x y → ((q ≡ x) × (r ≡ y)) ⊎ ((q ≡ y) × (r ≡ x))
unfolding pair_number triangle
pair_same q r x y e = by (dec_lt (max q r) (max x y)) (dec_lt (max x y) (max q r))
  where
    by : Dec (max q r < max x y) → Dec (max x y < max q r) → ((q ≡ x) × (r ≡ y)) ⊎ ((q ≡ y) × (r ≡ x))
    by (yes a) b = absurd (let z = triangle-mono (suc (max q r)) (max x y) a in omega arith)
    by (no a) (yes b) = absurd (let z = triangle-mono (suc (max x y)) (max q r) b in omega arith)
    by (no a) (no b) =
        let m : max q r ≡ max x y = omega arith in
        let f : triangle (max q r) ≡ triangle (max x y) = ap triangle m in
        let g : min q r ≡ min x y = omega arith in
        same m g (dec_le q r) (dec_le x y)
      where
        same : max q r ≡ max x y → min q r ≡ min x y → Dec (q ≤ r) → Dec (x ≤ y) → ((q ≡ x) × (r ≡ y)) ⊎ ((q ≡ y) × (r ≡ x))
        same m g (yes c) (yes d) = inl (omega arith, omega arith)
        same m g (yes c) (no d) = inr (omega arith, omega arith)
        same m g (no c) (yes d) = inr (omega arith, omega arith)
        same m g (no c) (no d) = inl (omega arith, omega arith)
