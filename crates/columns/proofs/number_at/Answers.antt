-- `columns::number_at` meets its contract: three bytes, read by `number_of`. Assumes nothing.
use Rattle.columns.specs.Number.{number_at}
use Rattle.columns.proofs.number_at.Goals as goal

pub returns : goal.returns
unfolding number_at
returns c = cc
