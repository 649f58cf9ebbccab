-- The law says which colour that is. Assumes nothing.
use Rattle.colour.specs.ColourLaws.{changed-is}
use Rattle.colour.proofs.Colour.changed.Goals as goal

pub returns : goal.returns
returns c = changed-is c.args.i c.args.emptied
