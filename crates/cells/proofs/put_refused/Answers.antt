-- The cells that are copied are those of the refusal, as they stand. Assumes nothing.
use Rattle.cells.proofs.put_refused.Goals as goal

pub returns : goal.returns
returns c = c.copy_numbers.ensures
