-- A phase that refuses refuses the file, and a phase that passes hands on. Assumes nothing.
use Rattle.std.specs.Prelude.{ℕ, ◌+◌, ◌-◌, ◌*◌, ◌≤◌, ◌<◌, ◌≡◌, refl, List, ◌++◌, length, take, drop, replicate, Err, Ok, Result}
use Rattle.std.proofs.Common.{sym, ◌∙◌, ap, subst, arith, take_at, drop_at, lt-ltb, le-ltb}
use Rattle.std.proofs.lemmas.List.{length-replicate, replicate-append-replicate}
use Rattle.gate.specs.Gate.{cleared}
use Rattle.gate.specs.GateLaws.{cleared-twice}
use Rattle.gate.specs.declared.Refusal.{Refusal}
use Rattle.name_lines.specs.NameLines.{Named, NamesRead}
use Rattle.parser.specs.Parse.{empty_sets, Contents, contents, head_of, after_head, parse}
use Rattle.frame.specs.Phase.{Phase, refused, passed, and_then}
use Rattle.format.specs.Format.{most_sheet}
use Rattle.withdrawal_lines.specs.WithdrawalLines.{Superseded, WithdrawalsRead}
use Rattle.superseding.specs.Superseding.{superseding_in, with_superseding}
use Rattle.superseding.specs.SupersedingLaws.{eight-stored}
use Rattle.automaton.specs.Automaton.{Automaton, TransitionSets, transition_sets}
use Rattle.automaton.specs.declared.Numbers.{Numbers}
use Rattle.lent.specs.Lent.{ClearedLong, cleared_sets, lent_sets}
use Rattle.state_lines.specs.StateLines.{states_answer}
use Rattle.transition_lines.specs.TransitionLines.{FillsTable}
use Rattle.parser.specs.PhaseAnswers.{GraphRead, NumbersRead, FileRead}
use Rattle.name_rows.specs.Rows.{HoldNames}
use Rattle.automaton.specs.Graph.{InRange}
use Rattle.frame.specs.declared.Position.{Position}
use Rattle.parser.specs.LettersRowsLaws.{names-kept, behind-cells}
use Rattle.parser.specs.declared.Sizes.{Sizes}
use Rattle.state_lines.specs.declared.Sets.{Sets}

-- A TABLE OF ZEROS: the 128 sets, and the rest
module _ (t : List ℕ) (zeros : t ≡ cleared t) (long : 128 ≤ length t) where
  in_two : t ≡ replicate 128 0 ++ replicate (length t - 128) 0
  in_two =
      let k : length t ≡ 128 + (length t - 128) = omega arith in
      zeros ∙ (ap (λ (n : ℕ). replicate {A = ℕ} n 0) k ∙ sym (replicate-append-replicate 128 (length t - 128) 0))

  sets-zero : take 128 t ≡ replicate 128 0
  sets-zero =
      ap (λ (x : List ℕ). take 128 x) in_two ∙
      take_at (replicate 128 0) (replicate (length t - 128) 0) 128 (length-replicate {A = ℕ} 128 0)

  behind-zero : drop 128 t ≡ replicate (length t - 128) 0
  behind-zero =
      ap (λ (x : List ℕ). drop 128 x) in_two ∙
      drop_at (replicate 128 0) (replicate (length t - 128) 0) 128 (length-replicate {A = ℕ} 128 0)

-- and two of them
module _ (t : TransitionSets) (h : ClearedLong t) where
  pub both_zero : transition_sets (take 128 t.successors) (take 128 t.marks) ≡ empty_sets
  both_zero = λ i. transition_sets
      (sets-zero t.successors (ap (λ (x : TransitionSets). x.successors) h.zeros) h.long.cells i)
      (sets-zero t.marks (ap (λ (x : TransitionSets). x.marks) h.zeros) h.long.marks i)

  pub lent-behind : (A : Automaton) → transition_sets (A.table ++ drop 128 t.successors) (A.marks ++ drop 128 t.marks) ≡ lent_sets A t
  lent-behind A = λ i. transition_sets
      (A.table ++ behind-zero t.successors (ap (λ (x : TransitionSets). x.successors) h.zeros) h.long.cells i)
      (A.marks ++ behind-zero t.marks (ap (λ (x : TransitionSets). x.marks) h.zeros) h.long.marks i)

-- THE STATE LINES
pub refused-by-states :
    (p : Phase Sets) (next : Sets → Phase Contents) (t u : TransitionSets) (r : Refusal) →
    Err r ≡ states_answer p → u ≡ cleared_sets t → GraphRead (and_then p next) t u (Err r)
refused-by-states (refused number line) next t u r e h = (cc, h)
refused-by-states (passed q) next t u r e h = absurd (let z : ◌≡◌ {A = ℕ} 0 1 = cc in omega arith)

pub states-pass : (p : Phase Sets) (next : Sets → Phase Contents) (q : Sets) → Ok q ≡ states_answer p → and_then p next ≡ next q
states-pass (refused number line) next q e = absurd (let z : ◌≡◌ {A = ℕ} 0 1 = cc in omega arith)
states-pass (passed q') next q e = let g : q' ≡ q = cc in ap next g

-- THE TRANSITION LINES, the last phase
module _ (z : Sizes) (y : Named) (w : Superseded) (q : Sets) where
  pub refused-by-transitions :
      (p : Phase TransitionSets) (t u : TransitionSets) (r : Refusal) →
      FillsTable p t u (Err r) → GraphRead (and_then p (λ sets. passed (contents z y w q sets))) t u (Err r)
  refused-by-transitions (refused number line) t u r e = ((let d = e.0 in cc), e.1)
  refused-by-transitions (passed sets) t u r e = absurd (let d = e.0 in let z : ◌≡◌ {A = ℕ} 0 1 = cc in omega arith)

  pub transitions-pass :
      (p : Phase TransitionSets) (t u : TransitionSets) →
      FillsTable p t u (Ok tt) → ClearedLong t →
      GraphRead (and_then p (λ sets. passed (contents z y w q sets))) t u
      (Ok (record { edition = z.edition; n = z.n; k = z.k; initial = q.initial; recurring = q.recurring }))
  transitions-pass (refused number line) t u e h = absurd (let d = e.0 in let z : ◌≡◌ {A = ℕ} 0 1 = cc in omega arith)
  transitions-pass (passed sets) t u e h = (refl, e.1 ∙ lent-behind t h (contents z y w q sets).numbers)

-- THE WITHDRAWAL LINES, in rows that were `old`
pub refused-by-withdrawals :
    (p : Phase Superseded) (next : Superseded → Phase Contents) (t u : TransitionSets) (old rows : List ℕ) (r : Refusal) →
    WithdrawalsRead p old rows (Err r) → u ≡ cleared_sets t → NumbersRead (and_then p next) t u old rows (Err r)
refused-by-withdrawals (refused number line) next t u old rows r e h = ((let d = e.0 in cc), h)
refused-by-withdrawals (passed w) next t u old rows r e h = absurd (let d = e.0 in let z : ◌≡◌ {A = ℕ} 0 1 = cc in omega arith)

-- what is known once they are read
pub record WithdrawalsHanded (p : Phase Superseded) (old rows : List ℕ) (place : Position) : Type 0 where
  pub superseded : Superseded
  pub is : p ≡ passed superseded
  pub at : superseded.at ≡ place.at
  pub line : superseded.line ≡ place.line
  pub small_line : place.line ≤ 17
  pub small_at : place.at ≤ 308
  pub eight : length superseded.cells ≡ 8
  pub stored : rows ≡ with_superseding old superseded.cells

pub withdrawals-pass : (p : Phase Superseded) (old rows : List ℕ) (place : Position) → WithdrawalsRead p old rows (Ok place) → WithdrawalsHanded p old rows place
withdrawals-pass (refused number line) old rows place e = absurd (let d = e.0 in let z : ◌≡◌ {A = ℕ} 0 1 = cc in omega arith)
withdrawals-pass (passed w) old rows place e =
    let d : Ok place ≡ Ok (record { at = w.at; line = w.line }) = e.0 in
    let g : place ≡ record { at = w.at; line = w.line } = cc in
    record {
      superseded = w;
      is = refl;
      at = sym (ap (λ (p : Position). p.at) g);
      line = sym (ap (λ (p : Position). p.line) g);
      small_line = rw g e.1;
      small_at = rw g e.2;
      eight = e.3;
      stored = e.4;
    }

-- the graph's lines behind them
module _ (z : Sizes) (y : Named) (w : Superseded) (old rows : List ℕ) (eight : length w.cells ≡ 8) (stored : rows ≡ with_superseding old w.cells) where
  pub with-cells :
      (p : Phase Sets) (next : Sets → Phase TransitionSets) (t u : TransitionSets) (r : Result Numbers Refusal) →
      GraphRead (and_then p (λ q. and_then (next q) (λ sets. passed (contents z y w q sets)))) t u r →
      NumbersRead (and_then p (λ q. and_then (next q) (λ sets. passed (contents z y w q sets)))) t u old rows r
  with-cells (refused number line) next t u r e = e
  with-cells (passed q) next t u r e = cases (next q) e
    where
      cases :
          (p : Phase TransitionSets) →
          GraphRead (and_then p (λ sets. passed (contents z y w q sets))) t u r →
          NumbersRead (and_then p (λ sets. passed (contents z y w q sets))) t u old rows r
      cases (refused number line) e = e
      cases (passed sets) e = (e.0, e.1, eight, stored)

-- THE NAME LINES
pub refused-by-names :
    (k : ℕ) (p : Phase Named) (next : Named → Phase Contents) (t u : TransitionSets) (old rows : List ℕ) (r : Refusal) →
    NamesRead k p (cleared old) rows (Err r) → u ≡ cleared_sets t → FileRead (and_then p next) t u old rows (Err r)
refused-by-names k (refused number line) next t u old rows r e h = ((let d = e.0 in cc), h, e.1 ∙ cleared-twice old)
refused-by-names k (passed y) next t u old rows r e h = absurd (let d = e.0 in let z : ◌≡◌ {A = ℕ} 0 1 = cc in omega arith)

-- what is known once they are read
pub record NamesHanded (k : ℕ) (p : Phase Named) (old rows : List ℕ) (place : Position) : Type 0 where
  pub named : Named
  pub is : p ≡ passed named
  pub at : named.at ≡ place.at
  pub line : named.line ≡ place.line
  pub small_line : place.line ≤ 10
  pub small_at : place.at ≤ 252
  pub all : length named.names ≡ k
  pub holds : HoldNames named.names rows
  pub behind : drop (24 * k) rows ≡ drop (24 * k) old

pub names-pass : (k : ℕ) (p : Phase Named) (old rows : List ℕ) (place : Position) → NamesRead k p old rows (Ok place) → NamesHanded k p old rows place
names-pass k (refused number line) old rows place e = absurd (let d = e.0 in let z : ◌≡◌ {A = ℕ} 0 1 = cc in omega arith)
names-pass k (passed y) old rows place e =
    let d : Ok place ≡ Ok (record { at = y.at; line = y.line }) = e.0 in
    let g : place ≡ record { at = y.at; line = y.line } = cc in
    record {
      named = y;
      is = refl;
      at = sym (ap (λ (p : Position). p.at) g);
      line = sym (ap (λ (p : Position). p.line) g);
      small_line = rw g e.1;
      small_at = rw g e.2;
      all = e.3;
      holds = e.4;
      behind = e.5;
    }

-- THE NUMBERS, behind the name lines of y: the rows, which were `old` and with the names `mid`, are all zero or hold these names and the superseding letters
module _ (z : Sizes) (y : Named) (old mid : List ℕ) where
  abbrev pub RowsLeft : List ℕ → List ℕ → Result Numbers Refusal → Type 0
  RowsLeft after rows (Err r) = rows ≡ cleared old
  RowsLeft after rows (Ok a) =
      (rows ≡ after) × InRange z.n z.k × (length y.names ≡ z.k) × HoldNames y.names mid
      × (drop (24 * z.k) mid ≡ drop (24 * z.k) (cleared old)) × (224 ≤ length mid)

  -- the rows with superseding letters in their cells
  rows_told : (cells after rows : List ℕ) (a : Numbers) → length cells ≡ 8 → after ≡ with_superseding mid cells → RowsLeft after rows (Ok a) →
      InRange z.n z.k × (length y.names ≡ z.k) × HoldNames y.names rows
      × (drop (24 * z.k) rows ≡ drop (24 * z.k) (with_superseding (cleared old) cells)) × (superseding_in rows ≡ cells)
  rows_told cells after rows a eight stored (same, range, all, holds, behind, long) =
      let e : rows ≡ with_superseding mid cells = same ∙ stored in
      let few : z.k ≤ 8 = range.3 in (
        range,
        all,
        rw e (names-kept y.names mid cells (omega arith) holds),
        rw e (behind-cells z.k mid (cleared old) cells few behind),
        rw e (eight-stored mid cells eight long),
      )

  pub with_rows :
      (p : Phase Superseded) (states : Superseded → Phase Sets) (transitions : Superseded → Sets → Phase TransitionSets) (t u : TransitionSets) (after rows : List ℕ) (r : Result Numbers Refusal) →
      NumbersRead (and_then p (λ w. and_then (states w) (λ q. and_then (transitions w q) (λ sets. passed (contents z y w q sets))))) t u mid after r →
      RowsLeft after rows r →
      FileRead (and_then p (λ w. and_then (states w) (λ q. and_then (transitions w q) (λ sets. passed (contents z y w q sets))))) t u old rows r
  with_rows (refused number line) states transitions t u after rows r e left = (e.0, e.1, subst (RowsLeft after rows) e.0 left)
  with_rows (passed w) states transitions t u after rows r e left = cases (states w) e
    where
      read :
          (q : Sets) (p : Phase TransitionSets) →
          NumbersRead (and_then p (λ sets. passed (contents z y w q sets))) t u mid after r →
          FileRead (and_then p (λ sets. passed (contents z y w q sets))) t u old rows r
      read q (refused number line) e = (e.0, e.1, subst (RowsLeft after rows) e.0 left)
      read q (passed sets) e =
          let (range, all, holds, behind, cells) = rows_told w.cells after rows (record { edition = z.edition; n = z.n; k = z.k; initial = q.initial; recurring = q.recurring }) e.2 e.3 (subst (RowsLeft after rows) e.0 left) in
          (e.0, e.1, range, all, holds, behind, cells)

      cases :
          (p : Phase Sets) →
          NumbersRead (and_then p (λ q. and_then (transitions w q) (λ sets. passed (contents z y w q sets)))) t u mid after r →
          FileRead (and_then p (λ q. and_then (transitions w q) (λ sets. passed (contents z y w q sets)))) t u old rows r
      cases (refused number line) e = (e.0, e.1, subst (RowsLeft after rows) e.0 left)
      cases (passed q) e = read q (transitions w q) e

-- THE SIZE
module _ (s : List ℕ) where
  pub too_large : most_sheet < length s → parse s ≡ refused 2 0
  unfolding parse
  too_large h = simp (lt-ltb most_sheet (length s) h)

  pub not-large : length s ≤ most_sheet → parse s ≡ and_then (head_of s) (after_head s)
  unfolding parse
  not-large h = simp (le-ltb most_sheet (length s) h)
