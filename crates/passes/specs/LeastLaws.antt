-- The least value of a stretch: there is one; that of one place, of one place more, and of stretches that follow each other. Assumes nothing.
use Rattle.std.specs.Prelude.{ℕ, suc, ◌+◌, ◌*◌, ◌-◌, ◌/◌, ◌%◌, ◌≤◌, ◌<◌, min, ◌≡◌, refl}
use Rattle.std.proofs.Common.{sym, ◌∙◌, ap, subst, arith, mul-le-mul_right, div-add-mod', mod-lt, suc-mul}
use Rattle.std.proofs.Math.Decide.{ℕ_discrete, dec_le, dec_lt}
use Rattle.finite.specs.Least.{lowest, lowest-le, lowest-at}
use Rattle.passes.specs.Passes.{LeastOf}

pub least-one : (f : ℕ → ℕ) (a : ℕ) → LeastOf f a (a + 1) (f a)
least-one f a = record {
  at = a;
  from = omega arith;
  before = omega arith;
  is = refl;
  lowest = λ s l m. (let e : s ≡ a = omega arith in rw e (omega arith));
}

pub least_more : (f : ℕ → ℕ) (a b v : ℕ) → LeastOf f a b v → LeastOf f a (b + 1) (min v (f b))
least_more f a b v h = by (dec_lt (f b) v)
  where
    low : (s : ℕ) → a ≤ s → s < b + 1 → min v (f b) ≤ f s
    low s l m = elim (ℕ_discrete s b) [
      | yes e ↦ rw e (omega arith)
      | no e ↦ let x = h.lowest s l (omega arith) in omega arith
    ]

    by : Dec (f b < v) → LeastOf f a (b + 1) (min v (f b))
    by (yes x) = record { at = b; from = omega (arith, h.from, h.before); before = omega arith; is = omega arith; lowest = low }
    by (no x) = record { at = h.at; from = h.from; before = omega (arith, h.before); is = omega (arith, h.is); lowest = low }

-- the least of f over stretches of c places is the least of their least values
pub least-joined : (f g : ℕ → ℕ) (m c a b v : ℕ) → LeastOf g a b v → ((j : ℕ) → a ≤ j → j < b → LeastOf f (m + j * c) (m + suc j * c) (g j))
    → 0 < c → LeastOf f (m + a * c) (m + b * c) v
least-joined f g m c a b v h parts pos =
    let z = parts h.at h.from h.before in
    let x = mul-le-mul_right c h.from in
    let y : suc h.at * c ≤ b * c = mul-le-mul_right c h.before in
    record {
      at = z.at;
      from = omega (arith, z.from);
      before = omega (arith, z.before);
      is = z.is ∙ h.is;
      lowest = low;
    }
  where
    low : (s : ℕ) → m + a * c ≤ s → s < m + b * c → v ≤ f s
    low s l r =
        let j = (s - m) / c in
        let e : j * c + (s - m) % c ≡ s - m = div-add-mod' (s - m) c in
        let z : (s - m) % c < c = mod-lt (s - m) pos in
        let top : suc j * c ≡ j * c + c = suc-mul j c in
        let from : a ≤ j = elim (dec_le a j) [
          | yes x ↦ x
          | no x ↦ let y : suc j * c ≤ a * c = mul-le-mul_right c (omega arith) in absurd (omega arith)
        ] in
        let before : j < b = elim (dec_lt j b) [
          | yes x ↦ x
          | no x ↦ let y : b * c ≤ j * c = mul-le-mul_right c (omega arith) in absurd (omega arith)
        ] in
        let k = h.lowest j from before in
        let n = (parts j from before).lowest s (omega arith) (omega arith) in
        omega arith

-- of another sequence that is f from place t on
pub least-from : (f g : ℕ → ℕ) (t size v : ℕ) → ((i : ℕ) → i < size → g i ≡ f (t + i)) → LeastOf g 0 size v → LeastOf f t (t + size) v
least-from f g t size v same h = record {
  at = t + h.at;
  from = omega arith;
  before = omega (arith, h.before);
  is = sym (same h.at h.before) ∙ h.is;
  lowest = λ s l m.
      let i = s - t in
      let e : t + i ≡ s = omega arith in
      let x = h.lowest i (omega arith) (omega arith) in
      let y : g i ≡ f s = same i (omega arith) ∙ ap f e in
      omega arith;
}

-- counted from the place before
pub least-down : (f : ℕ → ℕ) (a b v : ℕ) → LeastOf f (suc a) (b + 1) v → LeastOf (λ i. f (suc i)) a b v
least-down f a b v h =
    let l = h.from in
    let e : suc (h.at - 1) ≡ h.at = omega arith in
    record {
      at = h.at - 1;
      from = omega arith;
      before = omega (arith, h.before);
      is = ap f e ∙ h.is;
      lowest = λ s l m. h.lowest (suc s) (omega arith) (omega arith);
    }

-- there is one least value
least-low : (f : ℕ → ℕ) (a b x y : ℕ) → LeastOf f a b x → LeastOf f a b y → x ≤ y
least-low f a b x y h k = subst (λ (n : ℕ). x ≤ n) k.is (h.lowest k.at k.from k.before)

pub least-once : (f : ℕ → ℕ) (a b x y : ℕ) → LeastOf f a b x → LeastOf f a b y → x ≡ y
least-once f a b x y h k = omega (arith, least-low f a b x y h k, least-low f a b y x k h)

-- and the theory calls it lowest
pub least-lowest : (f : ℕ → ℕ) (a d : ℕ) → LeastOf f a (a + suc d) (lowest f a d)
least-lowest f a d =
    let (s, l, m, e) = lowest-at f a d in
    record { at = s; from = l; before = omega arith; is = e; lowest = λ t h k. lowest-le f a d t h (omega arith) }

-- the least of the first i values of f, as a loop keeps it that starts from the most a cell can hold
pub record LeastSoFar (f : ℕ → ℕ) (i v : ℕ) : Type 0 where
  pub none : i ≡ 0 → v ≡ 65535
  pub some : 0 < i → LeastOf f 0 i v

pub so_far_more : (f : ℕ → ℕ) (i v : ℕ) → LeastSoFar f i v → f i < 65536 → LeastSoFar f (i + 1) (min v (f i))
so_far_more f i v h l = record { none = λ e. omega arith; some = λ z. by (ℕ_discrete i 0) }
  where
    by : Dec (i ≡ 0) → LeastOf f 0 (i + 1) (min v (f i))
    by (yes e) =
        let x = h.none e in
        let y : min v (f i) ≡ f i = omega arith in
        rw (y, e) (least-one f 0)
    by (no e) = least_more f 0 i v (h.some (omega arith))
