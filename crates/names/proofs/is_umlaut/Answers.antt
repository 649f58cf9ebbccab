-- `names::is_umlaut` meets its contract: the bytes are those of `is_umlaut`. Assumes nothing.
use Rattle.names.specs.Name.{is_umlaut}
use Rattle.names.proofs.is_umlaut.Goals as goal

pub returns : goal.returns
unfolding is_umlaut
returns c = c.one_of.ensures
