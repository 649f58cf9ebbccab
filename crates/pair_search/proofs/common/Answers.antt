-- What the two intersections have is what all three sets have. Assumes nothing.
use Prim.Native.Nat.{ℕ}
use mathlib.Core.Path.{◌≡◌, sym, ap, subst, ◌∙◌}
use Rattle.sets.specs.Sets.{inter_of}
use Rattle.sets.specs.SetLaws.{inter-both}
use Rattle.automaton.specs.Graph.{successor_set}
use Rattle.pair_search.specs.Search.{Common}
use Rattle.pair_search.proofs.common.Goals as goal

pub returns : goal.returns
returns c =
    let a = c.args in
    let t = a.table.now in
    let e : c.inter-2.result ≡ inter_of (inter_of (successor_set t a.p a.letter) (successor_set t a.q a.letter)) a.counts =
    c.inter-2.ensures ∙ ap (λ (x : ℕ). inter_of x a.counts) c.inter.ensures in
    subst (Common t a.counts a.p a.q a.letter) (sym e) (inter-both (successor_set t a.p a.letter) (successor_set t a.q a.letter) a.counts)
