-- Cells that are empty for withdrawn letters, and transitions on letters in force, are the same. Assumes nothing.
use Rattle.std.specs.Prelude.{ℕ, ◌+◌, ◌*◌, ◌/◌, ◌%◌, ◌<◌, ◌≡◌, List, get_or}
use Rattle.std.proofs.Common.{subst, arith}
use Rattle.std.proofs.Math.Decide.{ℕ_discrete}
use Rattle.sets.specs.Sets.{Member}
use Rattle.sets.specs.SetLaws.{no_member, some-member}
use Rattle.automaton.specs.Automaton.{Automaton, graph_of, Fits}
use Rattle.automaton.specs.EdgeLaws.{edge_of, edge-letter}
use Rattle.automaton.specs.QuestionLaws.{fits-graph}
use Rattle.format.specs.Format.{Withdrawal, InForce}
use Rattle.format.specs.Withdrawals.{TellWithdrawn, EdgesInForce}
use Rattle.named_numbers.specs.InForce.{CellsInForce}

module _ {A : Automaton} (fits : Fits A) {ws : List Withdrawal} {superseding : List ℕ} (tell : TellWithdrawn ws superseding) where
  pub edges-in-force : CellsInForce A.table superseding → EdgesInForce (graph_of A) ws
  edges-in-force h l q r e = by (ℕ_discrete (get_or superseding l 0) 0)
    where
      by : Dec (get_or superseding l 0 ≡ 0) → InForce ws l
      by (yes z) = tell.in-force l z
      by (no d) =
          let small = edge-letter (graph_of A) (fits-graph fits) l q r e in
          let is : (8 * q + l) % 8 ≡ l = omega arith in
          let i : 8 * q + l < 128 = omega (arith, e.from, fits.range) in
          let empty : get_or A.table (8 * q + l) 0 ≡ 0 = h (8 * q + l) i (rw is d) in
          absurd (no_member r (subst (λ (x : ℕ). Member x r) empty e.to))

  pub cells-in-force : EdgesInForce (graph_of A) ws → CellsInForce A.table superseding
  cells-in-force h i l d = by (ℕ_discrete (get_or A.table i 0) 0)
    where
      by : Dec (get_or A.table i 0 ≡ 0) → get_or A.table i 0 ≡ 0
      by (yes z) = z
      by (no n) =
          let (r, m) = some-member (get_or A.table i 0) n in
          let is : 8 * (i / 8) + i % 8 ≡ i = omega arith in
          let edge = edge_of (graph_of A) (fits-graph fits) (i % 8) (i / 8) r (omega arith) (rw is m) in
          absurd (h (i % 8) (i / 8) r edge (tell.withdrawn (i % 8) d))
