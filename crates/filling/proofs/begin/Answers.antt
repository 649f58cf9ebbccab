-- The first tuple is a row behind none. Assumes nothing.
use Prim.Native.Nat.{ℕ}
use mathlib.Core.Path.{refl, subst}
use native.Mathlib.Omega.{arith}
use lib.ListN.{set, replicate}
use Rattle.tuple_record.specs.Record.{set_cells, row_cells}
use Rattle.row_index.specs.Index.{Indexed, Added}
use Rattle.row_index.specs.IndexLaws.{indexed-none}
use Rattle.filling.specs.Fill.{first_cells, first_way}
use Rattle.filling.proofs.begin.Goals as goal

pub find_or_add-requires : goal.find_or_add-requires
find_or_add-requires c =
    let a = c.args in
    let p = c.requires in
    let i : Indexed a.tuples.now 0 a.head.now a.link.now = rw (p.2.heads, p.2.links) (indexed-none a.tuples.now) in
    (i, refl, omega arith, omega arith)

pub returns : goal.returns
unfolding first_cells
returns c =
    let a = c.args in
    let d = c.find_or_add in
    subst
    (λ (x : ℕ). Added a.tuples.now d.new.table 0 (set (set (replicate row_cells 0) 0 a.a.initial) set_cells x) first_way d.new.head d.new.link)
    c.neutral-neutral.ensures (d.ensures.added (omega arith) (omega arith))
