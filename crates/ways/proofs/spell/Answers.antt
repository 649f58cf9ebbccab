-- The letters are cleared, counted and written. Assumes nothing.
use Rattle.ways.specs.SpellLaws.{cleared-spelling, cleared-spelled}
use Rattle.ways.proofs.spell.Goals as goal

pub put_letters-requires : goal.put_letters-requires
put_letters-requires c =
    let p = c.requires in
    cleared-spelling c.args.letters.now c.clear.ensures p.0 p.1 c.depth-d.ensures p.2

pub returns : goal.returns
returns c = cleared-spelled c.args.letters.now c.clear.ensures c.put_letters.ensures
