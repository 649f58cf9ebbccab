-- The loop that gathers the members of later places, from the last place on. Assumes nothing.
use Prim.Native.Nat.{ℕ, suc, ◌-◌, ◌≤◌, ◌<◌}
use Rattle.std.specs.Prelude.{◌≡◌, List, length, get_or, set}
use Rattle.std.proofs.Common.{sym, ◌∙◌, get_or-set_same, get_or-set_other}
use Rattle.std.proofs.Math.Path.{ap}
use native.Mathlib.Omega.{arith}
use Rattle.std.proofs.Math.Decide.{ℕ_discrete}
use Rattle.std.proofs.Math.Seq.{slice, slice_empty, slice-cons}
use Rattle.sets.specs.Sets.{union_of}
use Rattle.tuple.specs.Step.{union_all}

-- all of the cells from i on are filled, of the first count
abbrev pub UnionsFrom : ℕ → ℕ → List ℕ → List ℕ → Type 0
UnionsFrom i count cells later = (j : ℕ) → i ≤ j → j < count → get_or later j 0 ≡ union_all (slice (suc j) count cells)

module _ (cells : List ℕ) (count : ℕ) where
  pub unions-none : union_all (slice count count cells) ≡ 0
  unfolding union_all
  unions-none = rw (slice_empty count cells)

  -- one place more, from the last one on
  pub unions-more : (i all : ℕ) → 0 < i → i ≤ count → count ≤ length cells → all ≡ union_all (slice i count cells)
      → union_of (get_or cells (i - 1) 0) all ≡ union_all (slice (i - 1) count cells)
  unfolding union_all
  unions-more i all h k long e =
      let s : i ≡ suc (i - 1) = omega arith in
      ap (union_of (get_or cells (i - 1) 0)) (e ∙ ap (λ (z : ℕ). union_all (slice z count cells)) s)
      ∙ ap union_all (sym (slice-cons (i - 1) count cells 0 (omega arith) long))

  pub unions-set : (i all : ℕ) (later : List ℕ) → 0 < i → i ≤ length later → all ≡ union_all (slice i count cells)
      → UnionsFrom i count cells later → UnionsFrom (i - 1) count cells (set later (i - 1) all)
  unions-set i all later h k e from j a b = by (ℕ_discrete j (i - 1))
    where
      by : Dec (j ≡ i - 1) → get_or (set later (i - 1) all) j 0 ≡ union_all (slice (suc j) count cells)
      by (yes d) =
          let s : i ≡ suc j = omega arith in
          ap (λ (z : ℕ). get_or (set later (i - 1) all) z 0) d
          ∙ get_or-set_same later (i - 1) all 0 (omega arith)
          ∙ e
          ∙ ap (λ (z : ℕ). union_all (slice z count cells)) s
      by (no d) = get_or-set_other later (i - 1) j all 0 d ∙ from j (omega arith) b
