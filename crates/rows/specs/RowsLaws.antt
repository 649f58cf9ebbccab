-- The number of a row, found or added. Assumes nothing.
use Rattle.std.specs.Prelude.{ℕ, ◌≤◌, ◌<◌, refl, List}
use Rattle.std.proofs.Common.{arith}
use Rattle.tuple_record.specs.declared.WayBack.{WayBack}
use Rattle.row_index.specs.Index.{Indexed, RowFound, Added}
use Rattle.rows.specs.Rows.{FoundOrAdded}

module _ {table : List ℕ} {m : ℕ} {row : List ℕ} {r : ℕ} (f : RowFound table m row r) where
  pub number-found : {room : ℕ} {way : WayBack} {head link : List ℕ} → Indexed table m head link → r < m → FoundOrAdded table table m room row way head link r
  number-found i k = record { found = f; kept = λ l. (refl, i); added = λ l. absurd (omega arith); full = λ l. absurd (omega arith) }

  module _ (k : m ≤ r) where
    none_found : RowFound table m row m
    none_found = let l = f.most in record { most = omega arith; is = λ j. absurd (omega arith); none = λ e. f.none (omega arith) }

    pub number-added : {room : ℕ} {way : WayBack} {table' head link : List ℕ} → m < room → Added table table' m row way head link → FoundOrAdded table table' m room row way head link m
    number-added h a = record { found = none_found; kept = λ l. absurd (omega arith); added = λ j l. a; full = λ j l. absurd (omega arith) }

    pub number-over : {room : ℕ} {way : WayBack} {head link : List ℕ} → Indexed table m head link → room ≤ m → FoundOrAdded table table m room row way head link m
    number-over i l = record { found = none_found; kept = λ j. absurd (omega arith); added = λ j h. absurd (omega arith); full = λ j h. (refl, i) }
