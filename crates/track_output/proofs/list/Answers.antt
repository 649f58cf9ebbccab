-- The tables are long enough, and what listing answers is printed: `track-prints`. Assumes nothing.
use Rattle.track_output.specs.TrackLaws.{track-prints}
use borrow.Author.Rules.{rules}
use Rattle.track_output.proofs.list.Goals as goal

pub returns : goal.returns
returns c =
    track-prints c.args.input.now c.args.out.now _ _ _ c.requires c.list-listed.auto.out (search rules) c.list-listed.ensures c.answer.ensures
