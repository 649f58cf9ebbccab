-- `names::is_vowel` meets its contract: the bytes are those of `is_vowel`. Assumes nothing.
use Rattle.names.specs.Name.{is_vowel}
use Rattle.names.proofs.is_vowel.Goals as goal

pub returns : goal.returns
unfolding is_vowel
returns c = c.one_of.ensures
