-- The digest of a row: its cells mixed into one number.
use Rattle.std.specs.Prelude.{ℕ, zero, suc, ◌+◌, ◌*◌, ◌/◌, ◌%◌, List, eqb, get_or}
use Rattle.lists.specs.Choice.{choose}
use Rattle.tuple_record.specs.Record.{set_cells}

-- a number below 2^32 with one cell mixed in
abbrev pub mix : ℕ → ℕ → ℕ
mix h x = (h + x) * 1327217885 % 4294967296

-- the cells from i on, of which `left` are asked, up to the first that is zero
unfoldable pub mix_from : List ℕ → ℕ → ℕ → ℕ → ℕ
mix_from row h i zero = h
mix_from row h i (suc left) = choose (eqb (get_or row i 0) 0) h (mix_from row (mix h (get_or row i 0)) (suc i) left)

-- a row's digest, below 1,024: the same for the same row. A tuple's empty sets need no time: they stand behind its first zero.
unfoldable pub digest_of : List ℕ → ℕ
digest_of row = mix (mix_from row 0 0 set_cells) (get_or row set_cells 0) / 4194304
