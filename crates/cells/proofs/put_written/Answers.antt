-- Each case has its own cells, and the match tells the case. Assumes nothing.
use Rattle.cells.proofs.put_written.Goals as goal

pub returns-in-Err : goal.returns-in-Err
returns-in-Err c = rw c.in-Err.is c.put_refused.ensures

pub returns-in-Ok : goal.returns-in-Ok
returns-in-Ok c = rw c.in-Ok.is c.copy_numbers.ensures
