-- What building leaves in the tables is fixed: the count of tuples and every cell. Assumes nothing.
use Rattle.std.specs.Prelude.{ℕ, ◌≡◌, List, length, get_or}
use Rattle.std.proofs.Common.{sym, ap, subst, ◌∙◌, ext_get_or}
use Rattle.automaton.specs.Automaton.{Automaton}
use Rattle.tuple.specs.Step.{Tuple}
use Rattle.numbering.specs.Numbering.{TupleCells, NextCells}
use Rattle.numbering.proofs.NumberingLaws.{numbering-unique}
use Rattle.numbering.proofs.TableLaws.{tuple-cells-once, next-cells-once}
use Rattle.filling.specs.TrackerTables.{TrackerTables, Fitted}

-- the same number in each cell of two trackers' tables, of whatever lengths
pub record SameNumbers (one other : TrackerTables) : Type 0 where
  pub tuples : (i : ℕ) → get_or one.tuples i 0 ≡ get_or other.tuples i 0
  pub nexts : (c : ℕ) → get_or one.nexts c 0 ≡ get_or other.nexts c 0

-- with any room, in any tables
pub fitted-cells : {A : Automaton} {r s m n : ℕ} {v w one other : TrackerTables} → Fitted A r v one m → Fitted A s w other n → (m ≡ n) × SameNumbers one other
fitted-cells {A} {one = one} {other = other} p q =
    let x = p.holds in
    let y = q.holds in
    let same = numbering-unique A q.list p.list y.numbering x.numbering in
    let tuples = subst (λ (ts : List Tuple). TupleCells A ts other.tuples) same y.tuples in
    let nexts = subst (λ (ts : List Tuple). NextCells A ts other.nexts) same y.nexts in (
      p.count-is ∙ (ap length (sym same) ∙ sym q.count-is),
      record {
        tuples = tuple-cells-once A p.list one.tuples other.tuples x.tuples tuples;
        nexts = next-cells-once A p.list x.numbering.distinct one.nexts other.nexts x.nexts nexts;
      },
    )

pub fitted-once : {A : Automaton} {room m n : ℕ} {before one other : TrackerTables} → Fitted A room before one m → Fitted A room before other n → (m ≡ n) × (one ≡ other)
fitted-once {one = one} {other = other} p q =
    let x = p.holds in
    let y = q.holds in
    let (count, same) = fitted-cells p q in
    let tuples = ext_get_or 0 one.tuples other.tuples (x.same-tuples ∙ sym y.same-tuples) (λ i h. same.tuples i) in
    let nexts = ext_get_or 0 one.nexts other.nexts (x.same-nexts ∙ sym y.same-nexts) (λ c h. same.nexts c) in
    (count, λ i. record { tuples = tuples i; nexts = nexts i })
