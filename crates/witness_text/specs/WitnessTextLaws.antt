-- A number of a witness is shown whole. Assumes nothing.
use Rattle.std.specs.Prelude.{ℕ, ◌^◌, ◌≤◌, ◌<◌, ◌≡◌, ◌⊎◌, ◌∷◌, length}
use Rattle.std.proofs.Common.{ap, inl, inr, arith}
use Rattle.lists.specs.ChoiceLaws.{lt-or-ge}
use Rattle.text.specs.Bytes.{space}
use Rattle.columns.specs.Column.{column}
use Rattle.columns.specs.ColumnLaws.{column-injective}
use Rattle.witness_text.specs.WitnessText.{spaced}
use Rattle.witness_text.specs.PutLaws.{spaced-one, spaced-two, spaced-length}

-- a space and a number of one digit or two tell the number
pub spaced-injective : (u v : ℕ) → u < 100 → v < 100 → spaced u ≡ spaced v → u ≡ v
spaced-injective u v hu hv e = by (lt-or-ge u 10) (lt-or-ge v 10)
  where
    same : (w : ℕ) → u < 10 ^ w → v < 10 ^ w → spaced u ≡ space ∷ column w u → spaced v ≡ space ∷ column w v → u ≡ v
    same w p q a b = let c : column w u ≡ column w v = cc in column-injective w u v p q c

    by : (u < 10) ⊎ (10 ≤ u) → (v < 10) ⊎ (10 ≤ v) → u ≡ v
    by (inl p) (inl q) = same 1 p q (spaced-one p) (spaced-one q)
    by (inr p) (inr q) = same 2 hu hv (spaced-two p) (spaced-two q)
    by (inl p) (inr q) = absurd (omega (arith, spaced-length u 1 (spaced-one p), spaced-length v 2 (spaced-two q), ap length e))
    by (inr p) (inl q) = absurd (omega (arith, spaced-length u 2 (spaced-two p), spaced-length v 1 (spaced-one q), ap length e))
