-- When two sheets are the same.
use Rattle.std.specs.Prelude.{◌≡◌, map}
use Rattle.names.specs.Name.{compose}
use Rattle.format.specs.Format.{Sheet}
use Rattle.format.specs.Numbers.{numbers}

-- "sheets with equal numbers and equal composed names are the same sheet", and "the same sheet means equal `W` lines too"; the edition and
-- the marks are among the numbers
pub record SameSheet (σ τ : Sheet) : Type 0 where
  pub same_numbers : numbers σ ≡ numbers τ
  pub same_names : map compose σ.names ≡ map compose τ.names
  pub same-withdrawals : σ.withdrawals ≡ τ.withdrawals
