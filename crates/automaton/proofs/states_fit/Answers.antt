-- The members of a set are below n exactly where the set is below 2^n. Assumes nothing.
use Prim.Native.Nat.{◌^◌, ◌<◌, ◌≤◌}
use native.Mathlib.Omega.{arith}
use Rattle.std.proofs.Common.{ltb-true, ltb-false, eq-eqb, true≢false, sym, ◌∙◌}
use Rattle.sets.specs.SetLaws.{member-lt, small-of-within}
use Rattle.automaton.proofs.states_fit.Goals as goal

pub returns-then-n-eq16 : goal.returns-then-n-eq16
returns-then-n-eq16 c =
    let a = c.args in (
      λ t q h. let k : q < 16 = member-lt a.set 16 q c.ranges.set.fits h in omega arith,
      λ f. absurd (true≢false (sym (eq-eqb a.n 16 c.if-n-eq16.true) ∙ f)),
    )

pub returns-else-n-eq16 : goal.returns-else-n-eq16
returns-else-n-eq16 c =
    let a = c.args in
    let s = c.single.ensures in (
      λ t q. member-lt a.set a.n q (let l : a.set < c.single.result = ltb-true a.set c.single.result t in omega arith),
      λ f w.
          let l : c.single.result ≤ a.set = ltb-false a.set c.single.result f in
          let h : a.set < 2 ^ a.n = small-of-within a.set a.n w in
          omega arith,
    )
