-- Where p is no member of x, the answer is the empty set, which has no member. Assumes nothing.
use Rattle.sets.specs.SetLaws.{no_member}
use Rattle.pair_search.proofs.guarded.Goals as goal

pub returns : goal.returns
returns c =
    λ q. (λ h. absurd (no_member q h), λ h. absurd (c.contains.ensures.1 c.if-contains.false h.0))
