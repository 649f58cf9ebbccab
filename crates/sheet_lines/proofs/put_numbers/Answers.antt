-- With the numbers that are left stored from here on, the whole line is stored. Assumes nothing.
use Rattle.std.specs.Prelude.{ℕ, suc, ◌+◌, ◌*◌, ◌≤◌, ◌<◌, ◌≡◌, List, length, get_or, set, drop}
use Rattle.std.proofs.Common.{arith, sym, ◌∙◌, add-zero, drop-cons, drop_of_length-le}
use Rattle.std.proofs.lemmas.List.Edits.{sets}
use Rattle.text.specs.Bytes.{lf}
use Rattle.columns.specs.Column.{column}
use Rattle.columns.specs.LineLaws.{stored_fields, numbers-stored}
use Rattle.sheet_lines.proofs.put_numbers.Goals as goal

more : (out : List ℕ) (first i : ℕ) (vs : List ℕ) → i < length vs →
    stored_fields out (first + 3 * i) (drop i vs) ≡ stored_fields (sets out (first + 3 * i) (column 3 (get_or vs i 0))) (first + 3 * (i + 1)) (drop (i + 1) vs)
more out first i vs h =
    let a : i + 1 ≡ suc i = omega arith in
    let b : first + 3 * suc i ≡ first + 3 * i + 3 = omega arith in
    rw (drop-cons vs i 0, a, b)

end : (out : List ℕ) (first i : ℕ) (vs : List ℕ) → i ≡ length vs → stored_fields out (first + 3 * i) (drop i vs) ≡ set out (first + 3 * length vs) lf
end out first i vs e = let h : length vs ≤ i = omega arith in rw (drop_of_length-le vs h, e)

pub loop-i-init : goal.loop-i-init
loop-i-init c = let a = c.args in rw (c.put_bytes.ensures, add-zero) (numbers-stored a.out.now a.at a.opening.now a.numbers.now)

pub loop-i-preserved : goal.loop-i-preserved
loop-i-preserved c =
    let first = c.args.at + length c.args.opening.now in
    rw c.put_column.ensures (sym (more c.loop-i.out first c.loop-i.i c.args.numbers.now c.loop-i-test.true) ∙ c.loop-i.invariant)

pub returns : goal.returns
returns c =
    let first = c.args.at + length c.args.opening.now in
    sym (end c.loop-i.out first c.loop-i.i c.args.numbers.now (omega arith)) ∙ c.loop-i.invariant
