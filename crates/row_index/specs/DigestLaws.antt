-- Laws of digests. Assumes nothing.
use Rattle.std.specs.Prelude.{ℕ, ◌+◌, ◌-◌, ◌<◌, ◌≡◌, List, get_or}
use Rattle.std.proofs.Common.{add-one, eq-eqb, ne_eqb}
use Rattle.lists.specs.LeftLaws.{left-more}
use Rattle.tuple_record.specs.Record.{set_cells}
use Rattle.row_index.specs.Digest.{mix, mix_from}

pub mix-stops : (row : List ℕ) (h i : ℕ) → i < set_cells → get_or row i 0 ≡ 0 → mix_from row h i (set_cells - i) ≡ h
unfolding mix_from
mix-stops row h i l e = rw (left-more l, eq-eqb (get_or row i 0) 0 e)

pub mix-more : (row : List ℕ) (h i : ℕ) → i < set_cells → (get_or row i 0 ≡ 0 → ⊥) → mix_from row h i (set_cells - i) ≡ mix_from row (mix h (get_or row i 0)) (i + 1) (set_cells - (i + 1))
unfolding mix_from
mix-more row h i l e = rw (left-more l, ne_eqb (get_or row i 0) 0 e, add-one)
