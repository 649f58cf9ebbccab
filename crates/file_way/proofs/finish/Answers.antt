-- Each answer is that of its case. Assumes nothing.
use mathlib.Core.Path.{refl}
use Rattle.file_way.specs.Finish.{Finished}
use Rattle.file_way.proofs.finish.Goals as goal

pub returns-then-x-t : goal.returns-then-x-t
returns-then-x-t c = Finished.none c.in-Ok.x c.in-Ok.is c.if-x-t.true refl c.clear-then-x-t.ensures

pub returns-in-Err : goal.returns-in-Err
returns-in-Err c = Finished.refused c.in-Err.r c.in-Err.is refl c.clear.ensures

pub returns-else-x-t : goal.returns-else-x-t
returns-else-x-t c = Finished.shown c.in-Ok.x c.in-Ok.is c.if-x-t.false _ c.spell.ensures refl
