-- The digest is the mixing of sets and colour. Assumes nothing.
use Prim.Native.Nat.{ℕ, ◌/◌}
use mathlib.Core.Path.{ap, ◌∙◌}
use native.Mathlib.Omega.{arith}
use lib.ListN.{get_or}
use Rattle.tuple_record.specs.Record.{set_cells}
use Rattle.row_index.specs.Digest.{mix, digest_of}
use Rattle.row_index.proofs.digest.Goals as goal

pub returns : goal.returns
unfolding digest_of
returns c =
    let row = c.args.row.now in (
      ap (λ (x : ℕ). x / 4194304) (c.mixed.ensures.0 ∙ ap (λ (h : ℕ). mix h (get_or row set_cells 0)) c.mixed_sets.ensures.0),
      omega (arith, c.mixed.ensures.1),
    )
