-- With the numbers that are left stored from here on, the whole line is stored. Assumes nothing.
use Rattle.std.proofs.Common.{◌≡◌, ◌+◌, ◌*◌, drop}
use Rattle.columns.specs.LineLaws.{stored_fields}
use Rattle.columns.specs.Line.{numbers_line}
use Rattle.std.proofs.lemmas.List.Edits.{sets}
use Rattle.sheet_lines.proofs.put_numbers.Given as goal

abbrev pub invariant-loop-i : goal.invariant-loop-i
invariant-loop-i l =
    stored_fields l.out (l.first + 3 * l.i) (drop l.i l.numbers) ≡ sets l.fn.out l.at (numbers_line l.opening l.numbers)
