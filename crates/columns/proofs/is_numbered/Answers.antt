-- The kind first, then what the number comes to. Assumes nothing.
use Rattle.std.specs.Prelude.{Option, ℕ}
use mathlib.Core.Path.{◌≡◌, sym}
use mathlib.Core.Bool.{false}
use lib.Dec.{eqb}
use borrow.Author.Tests.{eq-eqb, ne_eqb}
use Rattle.columns.specs.Number.{with_number, is_numbered}
use Rattle.columns.proofs.is_numbered.Goals as goal
use Rattle.columns.proofs.is_numbered.Goals.{After-number_at}

-- behind the kind, the number decides
numbered : (c : After-number_at) →
    let a = c.args in
    (w : Option ℕ) → c.number_at.result ≡ w → with_number w (λ n. eqb n a.v) false ≡ is_numbered a.s.now a.at a.kind a.v
unfolding is_numbered
numbered c w e = simp (sym c.opening.ensures, eq-eqb _ _ c.if-opening-kind.false, sym c.number_at.ensures, e)

pub returns-then-opening-kind : goal.returns-then-opening-kind
unfolding is_numbered
returns-then-opening-kind c = simp (sym c.opening.ensures, ne_eqb _ _ c.if-opening-kind.true)

pub returns-in-Some : goal.returns-in-Some
returns-in-Some c = numbered (goal.at.returns-in-Some c).After-number_at _ c.in-Some.is

pub returns-in-None : goal.returns-in-None
returns-in-None c = numbered (goal.at.returns-in-None c).After-number_at _ c.in-None.is
