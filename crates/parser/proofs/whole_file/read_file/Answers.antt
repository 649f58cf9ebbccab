-- The rows are cleared; then each answer is that of the phase which gives it: FileLaws. Assumes nothing.
use Rattle.std.specs.Prelude.{ℕ, ◌+◌, ◌≤◌, ◌≡◌, refl, List, [], length, replicate, Err, Ok, Result}
use Rattle.gate.specs.declared.Refusal.{Refusal}
use Rattle.frame.specs.declared.Position.{Position}
use Rattle.automaton.specs.declared.Numbers.{Numbers}
use Rattle.std.proofs.Common.{sym, ◌∙◌, ap, subst, arith}
use Rattle.gate.specs.Gate.{cleared}
use Rattle.gate.specs.GateLaws.{passed-up, same-cleared}
use Rattle.columns.specs.Pair.{word_and_pair}
use Rattle.automaton.specs.declared.Edition.{Edition}
use Rattle.automaton.specs.Automaton.{TransitionSets, transition_sets}
use Rattle.automaton.specs.Graph.{InRange}
use Rattle.format.specs.Format.{sheet_word, most_sheet}
use Rattle.frame.specs.Phase.{Phase, passed, first_phase}
use Rattle.frame.specs.Answers.{first_answer, FirstFits}
use Rattle.frame.specs.FirstLaws.{first-passed, first-refused}
use Rattle.name_lines.specs.NameLines.{Named, names_at, NamesRead}
use Rattle.state_lines.specs.StateLines.{states_at}
use Rattle.state_lines.specs.declared.Sets.{Sets}
use Rattle.transition_lines.specs.TransitionLines.{transitions_at}
use Rattle.withdrawal_lines.specs.WithdrawalLines.{Superseded, withdrawals_at}
use Rattle.parser.specs.Parse.{edition_of, sizes, sheet_bounds, head_of, empty_sets, after_names, parse}
use Rattle.parser.specs.PhaseAnswers.{NumbersRead, FileRead}
use Rattle.parser.specs.LettersRowsLaws.{none-withdrawn}
use Rattle.parser.specs.FileLaws.{too_large, not-large, refused-by-names, names-pass, RowsLeft, with_rows}
use Rattle.parser.proofs.whole_file.read_file.Goals as goal

-- behind the first line: n and k are read
read : (s : List ℕ) (e : Edition) (n k : ℕ) {w : Result (ℕ × ℕ) Refusal} → e ≡ edition_of s → w ≡ Ok (n, k)
    → w ≡ first_answer (first_phase (word_and_pair s (sheet_word e)) sheet_bounds (λ n k. (n, k)) 3 4) → head_of s ≡ passed (sizes e n k)
unfolding head_of
read s e n k d is h = rw (← d) (first-passed sheet_bounds (sizes e) 3 4 (word_and_pair s (sheet_word e)) n k (sym is ∙ h))

-- behind the name lines: their answer, in rows that were cleared first
named-as : (k : ℕ) (p : Phase Named) (zeros old rows : List ℕ) {v w : Result Position Refusal} → zeros ≡ old → v ≡ w → NamesRead k p zeros rows v → NamesRead k p old rows w
named-as k p zeros old rows {v} {w} e f h = subst (λ (x : List ℕ). NamesRead k p x rows w) e (subst (NamesRead k p zeros rows) f h)

-- behind the numbers: their answer r, with what the rows hold then
numbered : (s : List ℕ) (e : Edition) (n k : ℕ) (y : Named) (old mid after rows : List ℕ) (t u : TransitionSets) {v : Result Numbers Refusal} (r : Result Numbers Refusal)
    → length s ≤ most_sheet → head_of s ≡ passed (sizes e n k) → names_at s 2 12 [] k ≡ passed y → v ≡ r
    → NumbersRead (after_names s (sizes e n k) y) t u mid after v → RowsLeft (sizes e n k) y old mid after rows r → FileRead (parse s) t u old rows r
numbered s e n k y old mid after rows t u r small head names told h left =
    let z = sizes e n k in
    let states : Superseded → Phase Sets = λ w. states_at e s w.line w.at 0 0 0 n in
    let transitions : Superseded → Sets → Phase TransitionSets = λ w q. transitions_at e s w.cells n k q.line q.at 0 empty_sets (length s + 1) in
    rw (not-large s small, head, names)
    (with_rows z y old mid (withdrawals_at s k y.line y.at 0 (replicate 8 0) (length s + 1)) states transitions t u after rows r
    (subst (NumbersRead (after_names s z y) t u mid after) told h) left)

pub returns-then-s-gt-MOST : goal.returns-then-s-gt-MOST
returns-then-s-gt-MOST c =
    rw (too_large c.args.s.now c.if-s-gt-MOST.true) (refl, c.requires.0.zeros, c.clear_bytes.ensures)

pub read_names-requires : goal.read_names-requires
read_names-requires c =
    let range : InRange c.in_ok-n.n c.in_ok-n.k = subst (FirstFits sheet_bounds) c.in_ok-n.was c.head_line.ensures.1 in
    omega (arith, range)

pub read_numbers-requires : goal.read_numbers-requires
read_numbers-requires c =
    let a = c.args in
    let k = c.in_ok-n.k in
    let rows = c.read_names.new.rows in
    let range : InRange c.in_ok-n.n k = subst (FirstFits sheet_bounds) c.in_ok-n.was c.head_line.ensures.1 in
    let p =
    names-pass k (names_at a.s.now 2 12 [] k) (cleared a.rows.now) rows c.in_ok-place.place
    (named-as k (names_at a.s.now 2 12 [] k) c.clear_bytes.new.bytes (cleared a.rows.now) rows c.clear_bytes.ensures c.in_ok-place.was c.read_names.ensures) in
    (c.if-s-gt-MOST.false, range, p.small_line, p.small_at, omega arith, none-withdrawn k rows a.rows.now range.3 c.requires.1 p.behind, c.requires.0)

pub returns-in_err-n : goal.returns-in_err-n
unfolding head_of
returns-in_err-n c =
    let a = c.args in
    let d = c.edition_of-edition.result in
    let (number, line, e, f) = first-refused sheet_bounds (sizes d) 3 4 (word_and_pair a.s.now (sheet_word d)) c.in_err-n.field-0.0 (sym c.in_err-n.was ∙ c.head_line.ensures.0) in
    rw (passed-up c.from_residual.result c.in_err-n.field-0.0 c.from_residual.ensures.1, not-large a.s.now c.if-s-gt-MOST.false, ← c.edition_of-edition.ensures, f) (ap Err e, c.requires.0.zeros, c.clear_bytes.ensures)

pub returns-in_err-place : goal.returns-in_err-place
returns-in_err-place c =
    let a = c.args in
    let s = a.s.now in
    let n = c.in_ok-n.n in
    let k = c.in_ok-n.k in
    let d = c.edition_of-edition.result in
    let t = transition_sets a.table.now a.marks.now in
    let rows = c.read_names.new.rows in
    rw (passed-up c.from_residual-in_err-place.result c.in_err-place.field-0.0 c.from_residual-in_err-place.ensures.1, not-large s c.if-s-gt-MOST.false, read s d n k c.edition_of-edition.ensures c.in_ok-n.was c.head_line.ensures.0)
    (refused-by-names k (names_at s 2 12 [] k) (after_names s (sizes d n k)) t t a.rows.now rows c.in_err-place.field-0.0
    (named-as k (names_at s 2 12 [] k) c.clear_bytes.new.bytes (cleared a.rows.now) rows c.clear_bytes.ensures c.in_err-place.was c.read_names.ensures)
    c.requires.0.zeros)

pub returns-in-Err : goal.returns-in-Err
returns-in-Err c =
    let a = c.args in
    let s = a.s.now in
    let n = c.in_ok-n.n in
    let k = c.in_ok-n.k in
    let d = c.edition_of-edition.result in
    let mid = c.read_names.new.rows in
    let after = c.read_numbers.new.rows in
    let p =
    names-pass k (names_at s 2 12 [] k) (cleared a.rows.now) mid c.in_ok-place.place
    (named-as k (names_at s 2 12 [] k) c.clear_bytes.new.bytes (cleared a.rows.now) mid c.clear_bytes.ensures c.in_ok-place.was c.read_names.ensures) in
    numbered s d n k p.named a.rows.now mid after c.clear_bytes-in-Err.new.bytes
    (transition_sets a.table.now a.marks.now) (transition_sets c.read_numbers.new.table c.read_numbers.new.marks) (Err c.in-Err.r)
    c.if-s-gt-MOST.false (read s d n k c.edition_of-edition.ensures c.in_ok-n.was c.head_line.ensures.0) p.is c.in-Err.is
    (c.read_numbers.ensures p.named p.at p.line)
    (c.clear_bytes-in-Err.ensures
    ∙ same-cleared a.rows.now after (c.read_numbers.auto.rows ∙ (c.read_names.auto.rows ∙ c.clear_bytes.auto.bytes)))

pub returns-in-Ok : goal.returns-in-Ok
returns-in-Ok c =
    let a = c.args in
    let s = a.s.now in
    let n = c.in_ok-n.n in
    let k = c.in_ok-n.k in
    let d = c.edition_of-edition.result in
    let mid = c.read_names.new.rows in
    let after = c.read_numbers.new.rows in
    let range : InRange n k = subst (FirstFits sheet_bounds) c.in_ok-n.was c.head_line.ensures.1 in
    let p =
    names-pass k (names_at s 2 12 [] k) (cleared a.rows.now) mid c.in_ok-place.place
    (named-as k (names_at s 2 12 [] k) c.clear_bytes.new.bytes (cleared a.rows.now) mid c.clear_bytes.ensures c.in_ok-place.was c.read_names.ensures) in
    numbered s d n k p.named a.rows.now mid after after
    (transition_sets a.table.now a.marks.now) (transition_sets c.read_numbers.new.table c.read_numbers.new.marks) (Ok c.in-Ok.a)
    c.if-s-gt-MOST.false (read s d n k c.edition_of-edition.ensures c.in_ok-n.was c.head_line.ensures.0) p.is c.in-Ok.is
    (c.read_numbers.ensures p.named p.at p.line)
    (refl, range, p.all, p.holds, p.behind, omega arith)
