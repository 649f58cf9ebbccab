-- The invariant is Search: the pairs before head are done, and none of them joins. The measure: there are at most 256 pairs. Assumes nothing.
use mathlib.Core.Path.{sym, ◌∙◌}
use Rattle.pair_search.specs.JoinLaws.{joins-at, joins-nowhere}
use Rattle.pair_search.specs.SearchLaws.{search-more}
use Rattle.pair_search.specs.FoundLaws.{search-found, search-free}
use Rattle.pair_search.proofs.explore.Goals as goal

pub returns-then-is_some : goal.returns-then-is_some
returns-then-is_some c =
    let p = c.requires in
    let (l, least) = joins-at c.joining.result (sym c.is_some.ensures ∙ c.if-is_some.true) c.joining.ensures in
    search-found p.0 p.2 c.loop-head.invariant c.loop-head-test.true c.number.ensures least.low least.joins

pub loop-head-preserved : goal.loop-head-preserved
loop-head-preserved c =
    let g = c.expand-count.ensures in
    search-more c.loop-head.invariant c.loop-head-test.true c.number.ensures
    (joins-nowhere c.joining.result (sym c.is_some.ensures ∙ c.if-is_some.false) c.joining.ensures) g.0 g.1

pub returns : goal.returns
returns c =
    let p = c.requires in
    search-free p.0 p.2 c.loop-head.invariant c.loop-head-test.false
