-- `name_rows::put_composed` meets its contract. The loop's invariant: storing what the rest of the stretch composes to gives all of it stored.
-- Assumes nothing.
use Rattle.std.specs.Prelude.{ℕ, ◌+◌, ◌≤◌, ◌<◌, ◌≡◌, refl, true, false, List, length}
use Rattle.std.proofs.Common.{sym, ◌∙◌, ap, add-zero, arith}
use Rattle.std.proofs.Math.ListN.{length-set}
use Rattle.std.proofs.lemmas.List.Edits.{sets}
use Rattle.text.specs.Bytes.{stretch}
use Rattle.names.specs.Name.{compose}
use Rattle.name_rows.specs.Row.{diaeresis_at}
use Rattle.name_rows.specs.ComposeLaws.{composed-fits, composed-one, composed-two, stored-none, stored_one, stored-two}
use Rattle.name_rows.proofs.put_composed.Goals as goal

-- what is left of the stretch from i on, where a letter of two bytes stands there, and where a byte does that stays
two-left : (s : List ℕ) (i e : ℕ) → i < e → e ≤ length s → diaeresis_at s i e ≡ true
    → (i + 3 ≤ e) × (length (compose (stretch s i e)) ≡ length (compose (stretch s (i + 3) e)) + 2)
two-left s i e l fits d = (composed-fits s i e l fits d, omega (arith, ap length (composed-two s i e l fits d)))

one-left : (s : List ℕ) (i e : ℕ) → i < e → e ≤ length s → diaeresis_at s i e ≡ false
    → length (compose (stretch s i e)) ≡ length (compose (stretch s (i + 1) e)) + 1
one-left s i e l fits d = omega (arith, ap length (composed-one s i e l fits d))

pub loop-i-init : goal.loop-i-init
loop-i-init c =
    let a = c.args in
    (omega arith, omega arith, omega arith, refl, omega arith, ap (λ (n : ℕ). sets a.out.now n (compose (stretch a.s.now a.start a.end))) (add-zero a.at))

pub bounds-out-at : goal.bounds-out-at
bounds-out-at c =
    omega (arith, two-left c.args.s.now c.loop-i.i c.args.end (omega arith) (omega arith) (sym c.diaeresis_at.ensures ∙ c.if-diaeresis_at.true))

pub overflow_add-out-then-diaeresis_at-2 : goal.overflow_add-out-then-diaeresis_at-2
overflow_add-out-then-diaeresis_at-2 c =
    omega (arith, two-left c.args.s.now c.loop-i.i c.args.end (omega arith) (omega arith) (sym c.diaeresis_at.ensures ∙ c.if-diaeresis_at.true))

pub bounds-out-at-then-diaeresis_at : goal.bounds-out-at-then-diaeresis_at
bounds-out-at-then-diaeresis_at c =
    simp length-set
    (omega (arith, two-left c.args.s.now c.loop-i.i c.args.end (omega arith) (omega arith) (sym c.diaeresis_at.ensures ∙ c.if-diaeresis_at.true)))

pub overflow_add-i : goal.overflow_add-i
overflow_add-i c =
    omega (arith, two-left c.args.s.now c.loop-i.i c.args.end (omega arith) (omega arith) (sym c.diaeresis_at.ensures ∙ c.if-diaeresis_at.true))

pub loop-i-smaller-then-diaeresis_at : goal.loop-i-smaller-then-diaeresis_at
loop-i-smaller-then-diaeresis_at c =
    omega (arith, two-left c.args.s.now c.loop-i.i c.args.end (omega arith) (omega arith) (sym c.diaeresis_at.ensures ∙ c.if-diaeresis_at.true))

pub loop-i-preserved-then-diaeresis_at : goal.loop-i-preserved-then-diaeresis_at
loop-i-preserved-then-diaeresis_at c =
    let l = c.loop-i in
    let a = c.args in
    let d : diaeresis_at a.s.now l.i a.end ≡ true = sym c.diaeresis_at.ensures ∙ c.if-diaeresis_at.true in
    let left = two-left a.s.now l.i a.end (omega arith) (omega arith) d in
    let k : a.at + l.n + 2 ≡ a.at + (l.n + 2) = omega arith in (
      omega arith,
      left.0,
      omega arith,
      simp length-set l.invariant.3,
      omega (arith, left, l.invariant.4),
      rw (c.umlaut_of.ensures, ← k) (sym (stored-two _ l.out _ _ (a.at + l.n) (omega arith) (omega arith) d) ∙ l.invariant.5),
    )

pub bounds-out-at-else-diaeresis_at : goal.bounds-out-at-else-diaeresis_at
bounds-out-at-else-diaeresis_at c =
    omega (arith, one-left c.args.s.now c.loop-i.i c.args.end (omega arith) (omega arith) (sym c.diaeresis_at.ensures ∙ c.if-diaeresis_at.false))

pub loop-i-preserved : goal.loop-i-preserved
loop-i-preserved c =
    let l = c.loop-i in
    let a = c.args in
    let d : diaeresis_at a.s.now l.i a.end ≡ false = sym c.diaeresis_at.ensures ∙ c.if-diaeresis_at.false in
    let k : a.at + l.n + 1 ≡ a.at + (l.n + 1) = omega arith in (
      omega arith,
      omega arith,
      omega arith,
      simp length-set l.invariant.3,
      omega (arith, one-left a.s.now l.i a.end (omega arith) (omega arith) d, l.invariant.4),
      rw (← k) (sym (stored_one _ l.out _ _ (a.at + l.n) (omega arith) (omega arith) d) ∙ l.invariant.5),
    )

pub returns : goal.returns
returns c =
    let l = c.loop-i in
    let a = c.args in
    let none = stored-none a.s.now l.out l.i a.end (a.at + l.n) (omega arith) in
    (sym none.0 ∙ l.invariant.5, omega (arith, none.1, l.invariant.4), omega arith)
