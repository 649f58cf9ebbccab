-- The three lines follow one another. Assumes nothing.
use Prim.Native.Nat.{◌+◌}
use mathlib.Core.Path.{◌≡◌}
use mathlib.Core.List.{[], ◌∷◌}
use native.Mathlib.Omega.{arith}
use lib.ListN.{length}
use Rattle.lent.specs.Lent.{WitnessTables, witness_tables}
use Rattle.witness_text.specs.WitnessText.{cells_line, witness_text}
use Rattle.witness_text.specs.PutLaws.{witness-length, written-append}
use Rattle.witness_text.proofs.put.Goals as goal
use Rattle.witness_text.proofs.put.Goals.{Start}

-- the witness, and its three lines
abbrev witness : Start → WitnessTables
witness c = witness_tables c.args.word.now c.args.one.now c.args.other.now

size : (c : Start)
    → length (witness_text (witness c) c.args.t)
    ≡ length (cells_line (87 ∷ 79 ∷ 82 ∷ 68 ∷ []) c.args.word.now c.args.t)
    + (length (cells_line (87 ∷ 65 ∷ 76 ∷ 75 ∷ []) c.args.one.now (c.args.t + 1))
    + length (cells_line (87 ∷ 65 ∷ 76 ∷ 75 ∷ []) c.args.other.now (c.args.t + 1)))
size c = witness-length (witness c) c.args.t

pub put_cells_line-first-requires : goal.put_cells_line-first-requires
put_cells_line-first-requires c =
    record { cells = omega (arith, c.requires.0.word); room = omega (arith, size (goal.at.put_cells_line-first-requires c).Start) }

pub put_cells_line-second-requires : goal.put_cells_line-second-requires
put_cells_line-second-requires c =
    record {
      cells = omega (arith, c.requires.0.one);
      room = omega (arith, c.put_cells_line-first.ensures.behind-it, size (goal.at.put_cells_line-second-requires c).Start);
    }

pub put_cells_line-requires : goal.put_cells_line-requires
put_cells_line-requires c =
    record {
      cells = omega (arith, c.requires.0.other);
      room = omega (arith, c.put_cells_line-first.ensures.behind-it, c.put_cells_line-second.ensures.behind-it, size (goal.at.put_cells_line-requires c).Start);
    }

pub returns : goal.returns
unfolding witness_text
returns c =
    written-append c.put_cells_line-first.ensures (written-append c.put_cells_line-second.ensures c.put_cells_line.ensures)
