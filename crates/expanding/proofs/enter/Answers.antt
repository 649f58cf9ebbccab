-- The row is loaded, and the step taken on it. Assumes nothing.
use Prim.Native.Nat.{ℕ, ◌%◌}
use mathlib.Core.Path.{◌≡◌, sym, subst}
use mathlib.Core.List.{List}
use Rattle.automaton.specs.Automaton.{automaton}
use Rattle.tuple.specs.Step.{next}
use Rattle.tuple.specs.Row.{row, tuple_of, Steps}
use Rattle.expanding.proofs.enter.Goals as goal

pub step-requires : goal.step-requires
step-requires c =
    let a = c.args in
    subst (Steps (automaton a.a a.table.now a.marks.now) (a.c % 8)) (sym c.load.ensures) c.requires.0

pub returns : goal.returns
returns c =
    let a = c.args in
    subst (λ (l : List ℕ). c.step.new.w ≡ row (next (automaton a.a a.table.now a.marks.now) (a.c % 8) (tuple_of l)))
    c.load.ensures
    c.step.ensures
