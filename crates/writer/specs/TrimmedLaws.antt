-- Cells behind the 128th are neither written nor walked on. Assumes nothing.
use Rattle.std.specs.Prelude.{ℕ, zero, suc, ◌+◌, ◌*◌, ◌/◌, ◌≤◌, ◌≡◌, refl, List, ◌++◌, map, take}
use Rattle.std.proofs.Common.{ap, subst, arith, get_or-take, take_all}
use Rattle.names.specs.Name.{compose}
use Rattle.sets.specs.Sets.{Member}
use Rattle.automaton.specs.Automaton.{Automaton, sets_of_automaton, graph_of, Fits}
use Rattle.automaton.specs.Graph.{Edge}
use Rattle.automaton.specs.Meeting.{Walk}
use Rattle.automaton.specs.Endless.{EndlessFrom, MeetingFree}
use Rattle.lent.specs.Lent.{EnoughForSets}
use Rattle.format.specs.Format.{Withdrawal, Sheet, lines, end_line}
use Rattle.format.specs.Numbers.{numbers}
use Rattle.format.specs.Written.{most_transitions, transitions_of, sheet_of, written_sheet, written}
use Rattle.format.proofs.NumbersLaws.{numbers-length, marks-length}
use Rattle.writer.specs.Writing.{trimmed}

transitions-trimmed : (T marks : List ℕ) (left i : ℕ) → i + left ≤ most_transitions → transitions_of (take 128 T) (take 128 marks) i left ≡ transitions_of T marks i left
unfolding transitions_of
transitions-trimmed T marks zero i h = refl
transitions-trimmed T marks (suc left) i h =
    rw (get_or-take 128 T (i / 16) 0 (omega arith), get_or-take 128 marks (i / 16) 0 (omega arith), transitions-trimmed T marks left (suc i) (omega arith))

edge-trimmed : (A : Automaton) → Fits A → (l q r : ℕ) → Edge (graph_of (trimmed A)) l q r → Edge (graph_of A) l q r
edge-trimmed A fits l q r e = record {
  letter = e.letter;
  from = e.from;
  to = subst (λ (x : ℕ). Member x r) (get_or-take 128 A.table (8 * q + l) 0 (omega (arith, e.letter, e.from, fits.range))) e.to;
}

walk-trimmed : (A : Automaton) → Fits A → (w : ℕ → ℕ) (t : ℕ) (x : ℕ → ℕ) → Walk (graph_of (trimmed A)) w t x → Walk (graph_of A) w t x
walk-trimmed A fits w t x h = record { starts = h.starts; goes = λ s l. edge-trimmed A fits (w s) (x s) (x (suc s)) (h.goes s l) }

endless-trimmed : (A : Automaton) → Fits A → (q : ℕ) → EndlessFrom (graph_of (trimmed A)) q → EndlessFrom (graph_of A) q
endless-trimmed A fits q (x, e, path) = (x, e, λ t. (let (l, h) = path t in (l, edge-trimmed A fits l (x t) (x (suc t)) h)))

pub free-trimmed : (A : Automaton) → Fits A → MeetingFree (graph_of A) → MeetingFree (graph_of (trimmed A))
free-trimmed A fits free w t x y m = free w t x y (record {
  one = walk-trimmed A fits w t x m.one;
  other = walk-trimmed A fits w t y m.other;
  differ = m.differ;
  shared = m.shared;
  counts = endless-trimmed A fits (x t) m.counts;
})

sheet-trimmed : (A : Automaton) (names : List (List ℕ)) (ws : List Withdrawal) → sheet_of (trimmed A) names ws ≡ sheet_of A names ws
unfolding sheet_of
sheet-trimmed A names ws =
    let σ = sheet_of A names ws in
    λ i. record {
      edition = σ.edition;
      n = σ.n;
      k = σ.k;
      names = σ.names;
      withdrawals = σ.withdrawals;
      states = σ.states;
      transitions = transitions-trimmed A.table A.marks most_transitions 0 (omega arith) i;
    }

pub written-trimmed : (A : Automaton) (names : List (List ℕ)) (ws : List Withdrawal) → written (trimmed A) names ws ≡ written A names ws
unfolding written written_sheet
written-trimmed A names ws = ap (λ σ. lines σ ++ end_line) (sheet-trimmed A (map compose names) ws)

-- a sheet has 128 cells of either kind, and none behind them
pub sheet-long : (σ : Sheet) → EnoughForSets (sets_of_automaton (numbers σ))
sheet-long σ = record { cells = omega (arith, numbers-length σ); marks = omega (arith, marks-length σ) }

pub trimmed-numbers : (σ : Sheet) → trimmed (numbers σ) ≡ numbers σ
trimmed-numbers σ = λ i. record {
  edition = (numbers σ).edition;
  n = (numbers σ).n;
  k = (numbers σ).k;
  initial = (numbers σ).initial;
  recurring = (numbers σ).recurring;
  table = take_all 128 (numbers σ).table (omega (arith, numbers-length σ)) i;
  marks = take_all 128 (numbers σ).marks (omega (arith, marks-length σ)) i;
}
