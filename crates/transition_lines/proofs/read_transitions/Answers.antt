-- The loop's invariant: what is left of the definition, from the place reached and the two tables as they are there, is the whole of it. Assumes nothing.
use Rattle.std.specs.Prelude.{Err, Ok, Option, Result}
use Rattle.gate.specs.declared.Refusal.{Refusal}
use Prim.Native.Nat.{ℕ, ◌+◌, ◌-◌, ◌*◌, ◌≤◌, ◌<◌}
use mathlib.Core.Path.{◌≡◌, refl, sym, ap, ◌∙◌}
use native.Mathlib.Omega.{arith}
use mathlib.Core.Bool.{Bool, true, false}
use mathlib.Core.List.{List}
use lib.ListN.{length, get_or, take, drop, length-set, take-append-drop}
use lib.Seq.{drop-set-lt, take-set-lt, get_or-take}
use lib.Dec.{eqb}
use borrow.Author.Tests.{eq-eqb, ne_eqb}
use Rattle.automaton.specs.declared.Edition.{Edition}
use Rattle.automaton.specs.Automaton.{TransitionSets, transition_sets}
use Rattle.lent.proofs.LentLaws.{sets-cleared-alike}
use Rattle.format.proofs.FormatLaws.{transition-width}
use Rattle.lists.specs.Choice.{choose}
use Rattle.superseding.specs.Superseding.{superseding_in}
use Rattle.format.specs.Format.{Transition, transition_index, transition_width}
use Rattle.format.proofs.NumbersLaws.{transition, where-length}
use Rattle.format.specs.Numbers.{inserted}
use Rattle.transition_lines.specs.TransitionLines.{transition_line_at, with_transition, if_in_force, with_marked, transitions_at, FillsTable}
use Rattle.frame.specs.Phase.{Phase, refused}
use Rattle.transition_lines.specs.TransitionStepLaws.{transitions-turn, transitions-done, TablesLeft, end-fills, where-drop, where-take}
use Rattle.text.specs.WordLaws.{within}
use Rattle.transition_lines.proofs.read_transitions.Invariants.{front}
use Rattle.transition_lines.proofs.read_transitions.Goals as goal
use Rattle.transition_lines.proofs.read_transitions.Goals.{After-end_line, After-superseding, After-transition_line, At-loop-edition, In-Some, In-loop-edition, Start}

-- where a T stands, which so lies within the file
inside : (s : List ℕ) (at : ℕ) {b : ℕ} → b ≡ get_or s at 0 → b ≡ 84 → at < length s
inside s at e w = within s at (omega arith)

-- what is left of the definition behind a turn that takes transition t
abbrev left : Edition → (s rows : List ℕ) (n k first line at : ℕ) (table marks : List ℕ) → Transition → Phase TransitionSets
left e s rows n k first line at table marks t =
    transitions_at e s (superseding_in rows) n k (line + 1) (at + transition_width e) (transition_index t + 1)
    (with_marked (front table marks) t)
    (length s + 1 + first - (line + 1))

-- what a line holds decides what is left of the definition, the whole of which is x
turn : (ed : Edition) (s rows : List ℕ) (n k first line at least : ℕ) (table marks : List ℕ) {b : ℕ} {w : Option (ℕ × ℕ × ℕ × ℕ)} {x : Phase TransitionSets} →
    b ≡ get_or s at 0 → b ≡ 84 → line ≤ at + first → transition_line_at ed s at n k least ≡ w →
    transitions_at ed s (superseding_in rows) n k line at least (front table marks) (length s + 1 + first - line) ≡ x →
    with_transition w (λ t. if_in_force (superseding_in rows) line t (left ed s rows n k first line at table marks t)) (refused 8 line) ≡ x
turn ed s rows n k first line at least table marks o t early is e =
    sym
    (transitions-turn ed s (superseding_in rows) n k line at least (front table marks) (length s + 1 + first - (line + 1)) (length s + 1 + first - line)
    (omega (arith, inside s at o t)) (sym o ∙ t) is) ∙ e

-- and then the cell of its letter
letter-turn : (c : After-superseding) →
    let l = c.loop-edition in
    let a = c.args in
    let z = c.in-Some in
    (b : Bool) → eqb c.superseding.result 0 ≡ b →
    choose b (left a.edition a.s.now a.rows.now a.n a.k a.first l.line l.at l.table l.marks (transition z.from z.letter z.to z.mark)) (refused 16 l.line) ≡
    transitions_at a.edition a.s.now (superseding_in a.rows.now) a.n a.k a.first a.start 0 (front a.table.now a.marks.now) (length a.s.now + 1)
letter-turn c b e =
    let a = c.args in
    let l = c.loop-edition in
    let cell : c.superseding.result ≡ get_or (superseding_in a.rows.now) c.in-Some.letter 0 = c.superseding.ensures.0 in
    rw (← cell, e) at
    (turn a.edition a.s.now a.rows.now a.n a.k a.first l.line l.at l.least l.table l.marks c.opening.ensures c.loop-edition-test.true l.invariant.0
    (sym c.transition_line.ensures.0 ∙ c.in-Some.is) l.invariant.7)

-- from, letter, to and mark are small
small :
    (c : In-Some) →
    (c.in-Some.from < 16) × (c.in-Some.letter < 8) × (c.in-Some.to < 16) × (c.in-Some.mark ≤ 1)
small c = rw c.in-Some.is at c.transition_line.ensures.1

-- behind the transition lines: the end's answer r, with what it leaves in the tables
ended : (c : After-end_line) (r : Result Unit Refusal) → c.end_line.result ≡ r →
    let l = c.loop-edition in
    let a = c.args in
    (after : TransitionSets) → TablesLeft (front l.table l.marks) (transition_sets a.table.now a.marks.now) after r →
    FillsTable
    (transitions_at a.edition a.s.now (superseding_in a.rows.now) a.n a.k a.first a.start 0 (front a.table.now a.marks.now) (length a.s.now + 1)) (transition_sets a.table.now a.marks.now) after r
ended c r told after left =
    let l = c.loop-edition in
    let a = c.args in
    let s = a.s.now in
    let f = length s + a.first - l.line in
    let e =
    sym
    (transitions-done a.edition s (superseding_in a.rows.now) a.n a.k l.line l.at l.least (front l.table l.marks) f (length s + 1 + a.first - l.line) (omega arith)
    (λ e. c.loop-edition-test.false (c.opening.ensures ∙ e))) ∙
    l.invariant.7 in
    rw (← e) (end-fills s l.line l.at (front l.table l.marks) (transition_sets a.table.now a.marks.now) after r (sym told ∙ c.end_line.ensures) left)

pub loop-edition-init : goal.loop-edition-init
loop-edition-init c =
    let a = c.args in
    let z : length a.s.now + 1 + a.first - a.first ≡ length a.s.now + 1 = omega arith in
    (omega arith, omega arith, omega arith, refl, refl, refl, refl, rw z)

pub transition_line-requires : goal.transition_line-requires
transition_line-requires c = omega (arith, inside c.args.s.now c.loop-edition.at c.opening.ensures c.loop-edition-test.true)

pub shape_of-table-in_default : goal.shape_of-table-in_default
shape_of-table-in_default c = c.clear_sets.auto.table ∙ c.loop-edition.invariant.3

pub shape_of-marks-in_default : goal.shape_of-marks-in_default
shape_of-marks-in_default c = c.clear_sets.auto.marks ∙ c.loop-edition.invariant.4

pub returns-in_default : goal.returns-in_default
returns-in_default c =
    let l = c.loop-edition in
    let a = c.args in
    rw (← turn a.edition a.s.now a.rows.now a.n a.k a.first l.line l.at l.least l.table l.marks c.opening.ensures c.loop-edition-test.true l.invariant.0
    (sym c.transition_line.ensures.0 ∙ c.in_default.is) l.invariant.7) (refl, c.clear_sets.ensures ∙ sets-cleared-alike (transition_sets a.table.now a.marks.now) (transition_sets l.table l.marks) l.invariant.3 l.invariant.4)

pub superseding-requires : goal.superseding-requires
superseding-requires c = omega (arith, small (goal.at.superseding-requires c).In-Some)

pub shape_of-table-then-superseding-ne0 : goal.shape_of-table-then-superseding-ne0
shape_of-table-then-superseding-ne0 c = c.clear_sets-then-superseding-ne0.auto.table ∙ c.loop-edition.invariant.3

pub shape_of-marks-then-superseding-ne0 : goal.shape_of-marks-then-superseding-ne0
shape_of-marks-then-superseding-ne0 c = c.clear_sets-then-superseding-ne0.auto.marks ∙ c.loop-edition.invariant.4

pub returns-then-superseding-ne0 : goal.returns-then-superseding-ne0
returns-then-superseding-ne0 c =
    let l = c.loop-edition in
    let a = c.args in
    rw (← letter-turn (goal.at.returns-then-superseding-ne0 c).After-superseding false (ne_eqb _ _ c.if-superseding-ne0.true))
    (refl, c.clear_sets-then-superseding-ne0.ensures ∙ sets-cleared-alike (transition_sets a.table.now a.marks.now) (transition_sets l.table l.marks) l.invariant.3 l.invariant.4)

pub overflow_mul-cell : goal.overflow_mul-cell
overflow_mul-cell c = omega (arith, small (goal.at.overflow_mul-cell c).In-Some)

pub overflow_add-cell : goal.overflow_add-cell
overflow_add-cell c = omega (arith, small (goal.at.overflow_add-cell c).In-Some)

pub offset_bounds-table-cell : goal.offset_bounds-table-cell
offset_bounds-table-cell c = omega (arith, small (goal.at.offset_bounds-table-cell c).In-Some)

pub bounds-table-cell : goal.bounds-table-cell
bounds-table-cell c = omega (arith, small (goal.at.bounds-table-cell c).In-Some)

pub insert-requires : goal.insert-requires
insert-requires c = omega (arith, small (goal.at.insert-requires c).In-Some)

pub offset_bounds-table-cell-in-loop-edition : goal.offset_bounds-table-cell-in-loop-edition
offset_bounds-table-cell-in-loop-edition c = omega (arith, small (goal.at.offset_bounds-table-cell-in-loop-edition c).In-Some)

pub bounds-table-cell-in-loop-edition : goal.bounds-table-cell-in-loop-edition
bounds-table-cell-in-loop-edition c = omega (arith, small (goal.at.bounds-table-cell-in-loop-edition c).In-Some)

pub insert_where-requires : goal.insert_where-requires
insert_where-requires c = omega (arith, small (goal.at.insert_where-requires c).In-Some)

pub overflow_mul-least : goal.overflow_mul-least
overflow_mul-least c = omega (arith, small (goal.at.overflow_mul-least c).In-Some)

pub overflow_add-least : goal.overflow_add-least
overflow_add-least c = omega (arith, small (goal.at.overflow_add-least c).In-Some)

pub overflow_add-least-in-loop-edition : goal.overflow_add-least-in-loop-edition
overflow_add-least-in-loop-edition c = omega (arith, small (goal.at.overflow_add-least-in-loop-edition c).In-Some)

pub loop-edition-smaller : goal.loop-edition-smaller
loop-edition-smaller c = omega (arith, inside c.args.s.now c.loop-edition.at c.opening.ensures c.loop-edition-test.true)

pub loop-edition-preserved : goal.loop-edition-preserved
unfolding inserted
loop-edition-preserved c =
    let l = c.loop-edition in
    let z = c.in-Some in
    let w = inside c.args.s.now c.loop-edition.at c.opening.ensures c.loop-edition-test.true in
    let b : 8 * z.from + z.letter < 128 = omega (arith, small (goal.at.loop-edition-preserved c).In-Some) in
    let t = transition z.from z.letter z.to z.mark in
    let size = c.transition_width-size.ensures in
    let width = transition-width c.args.edition in
    let placed = c.insert_where.ensures in (
      omega (arith, size, width),
      omega (arith, size, width),
      omega arith,
      simp length-set l.invariant.3,
      ap length placed ∙ (where-length t.mark l.marks (8 * z.from + z.letter) t.to ∙ l.invariant.4),
      drop-set-lt 128 l.table (8 * z.from + z.letter) c.insert.result b ∙ l.invariant.5,
      ap (drop 128) placed ∙ (where-drop t.mark l.marks (8 * z.from + z.letter) t.to b ∙ l.invariant.6),
      rw (size.0, ap (take 128) placed ∙ where-take t.mark l.marks (8 * z.from + z.letter) t.to b, take-set-lt 128 l.table (8 * z.from + z.letter) c.insert.result b, c.insert.ensures, ← get_or-take 128 l.table (8 * z.from + z.letter) 0 b)
          (letter-turn (goal.at.loop-edition-preserved c).After-superseding true (eq-eqb _ _ c.if-superseding-ne0.false)),
    )

pub shape_of-table-in-Err : goal.shape_of-table-in-Err
shape_of-table-in-Err c = c.clear_sets-in-Err.auto.table ∙ c.loop-edition.invariant.3

pub shape_of-marks-in-Err : goal.shape_of-marks-in-Err
shape_of-marks-in-Err c = c.clear_sets-in-Err.auto.marks ∙ c.loop-edition.invariant.4

pub returns-in-Err : goal.returns-in-Err
returns-in-Err c =
    let l = c.loop-edition in
    let a = c.args in
    ended (goal.at.returns-in-Err c).After-end_line (Err c.in-Err.r) c.in-Err.is _
    (c.clear_sets-in-Err.ensures ∙ sets-cleared-alike (transition_sets a.table.now a.marks.now) (transition_sets l.table l.marks) l.invariant.3 l.invariant.4)

pub returns : goal.returns
returns c =
    let l = c.loop-edition in
    ended (goal.at.returns c).After-end_line (Ok tt) c.in_default-end_line.is (transition_sets l.table l.marks)
    (rw (← l.invariant.5, ← l.invariant.6) (λ i. transition_sets (sym (take-append-drop 128 l.table) i) (sym (take-append-drop 128 l.marks) i)))
