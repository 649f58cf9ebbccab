-- The questions on numbers and the search for meeting walks, case by case: how the answers are put together, where the search begins, and what the cleared tables
-- give to the questions behind. Assumes nothing.
use Rattle.std.specs.Prelude.{ℕ, ◌+◌, ◌%◌, ◌≤◌, ◌<◌, ◌≡◌, refl, List, length, Option, Some, None}
use Rattle.std.proofs.Common.{sym, arith}
use Rattle.std.proofs.lemmas.Bool.{false≢true}
use Rattle.std.proofs.lemmas.Option.{none-some}
use Rattle.automaton.specs.declared.Numbers.{Numbers}
use Rattle.automaton.specs.Automaton.{Automaton, TransitionSets, Fits, FirstNo, Answers}
use Rattle.automaton.specs.Graph.{Graph, GraphFits}
use Rattle.automaton.specs.Meeting.{Free, Witness}
use Rattle.lent.specs.Lent.{WitnessTables, SameLengths, EnoughForSheet, cleared_witness, cleared_sets}
use Rattle.lent.proofs.LentLaws.{lengths-cleared, tables-twice, long-cleared, sets-twice, long-sets-cleared}
use Rattle.queue.specs.Queue.{pair, depth, Queue, AtMost, Open}
use Rattle.pair_search.specs.Search.{AllJustified, Grown, Started, Ready, Search, Joining, MeetingFound}
use Rattle.meeting.specs.Answer.{Answered}
use Rattle.meeting.specs.WitnessLaws.{found-joins}
use Rattle.reading.specs.Read.{ReadTables, SheetRead, lent_cleared}

-- THE QUESTIONS 4, 7 and 8: all answered yes, and the first answered no

pub answers-yes : {A : Automaton} → Fits A → Answers A None
answers-yes f = f

pub answers-no : {A : Automaton} {x : ℕ} → FirstNo A x → Answers A (Some x)
answers-no n = n

-- QUESTION 10: yes, with the tables as they were, and no, with the witness

pub same_tables : (v : WitnessTables) → SameLengths v v
same_tables v = record { word = refl; one = refl; other = refl }

pub answer-free : {G : Graph} {Counts : ℕ → Type 0} {v : WitnessTables} → Free G Counts → Answered G Counts v v None
answer-free {v = v} f = record { free = λ e. f; kept = λ e. refl; witness = λ d e. absurd (none-some d e); lengths = same_tables v }

pub answer-witness : {G : Graph} {Counts : ℕ → Type 0} {v w : WitnessTables} {r : ℕ} → 0 < r → Witness G Counts r w.word w.one w.other
    → SameLengths v w → Answered G Counts v w (Some r)
answer-witness {r = r} l x s = record {
  free = λ e. absurd (none-some r (sym e));
  kept = λ e. absurd (none-some r (sym e));
  witness = λ d e. (let k : r ≡ d = cc in rw (← k) (l, x));
  lengths = s;
}

-- a pair that was found joins, and the letter is one of the eight
pub found-letter : {G : Graph} {counts : ℕ} {T : List ℕ} {head e : ℕ} {o : Option ℕ} → MeetingFound G counts T head → e ≡ pair T head → Joining G.table counts e o
    → (l : ℕ) × (o ≡ Some l) × (l < 8)
found-letter {o = None} f h j = absurd (false≢true (found-joins None f h j))
found-letter {o = Some l} f h j = (l, refl, j.low)

-- THE SEARCH: where it begins, and what a pair of it may add

pub grown-none : {G : Graph} {T : List ℕ} {count d : ℕ} → Queue T count → AllJustified G T count → AtMost T count d → Grown G T count d T count
grown-none q s m = record { queue = q; justified = s; more = omega arith; keeps = λ i l. (refl, refl); most = m }

pub search-start : {G : Graph} {counts : ℕ} {T : List ℕ} {count : ℕ} → Started G T count 16 → Search G counts T count 0
search-start s = record {
  queue = s.queue;
  justified = s.justified;
  begun = s.begun;
  within = omega arith;
  near = λ h i l. (let m = s.most i l in omega arith);
  closed = λ i l. absurd (omega arith);
  none = λ i l. absurd (omega arith);
}

pub search-ready : {G : Graph} {counts : ℕ} {T : List ℕ} {count head : ℕ} → Search G counts T count head → head < count → GraphFits G → 128 ≤ length G.table → Ready G T count head
search-ready s h fits cells = record { fits = fits; cells = cells; queue = s.queue; justified = s.justified; some = h; near = s.near h }

pub start-open : {G : Graph} {T : List ℕ} {count p : ℕ} → Started G T count p → p < 16 → Open T count 0 p
start-open s l = record { queue = s.queue; most = s.most; deep = omega arith; state = l }

pub step-open : {G : Graph} {T₀ : List ℕ} {count₀ head e d : ℕ} → head < count₀ → e ≡ pair T₀ head → d ≡ depth e + 1
    → {T : List ℕ} {count : ℕ} (j : ℕ) → Grown G T₀ count₀ d T count → Queue T₀ count₀ → Open T count d (j % 16)
step-open {head = head} {e = e} h is deep j g q = let m = g.more in let u = q.early head h in let v : depth e ≤ head = rw is u in record { queue = g.queue; most = g.most; deep = omega arith; state = omega arith }

-- TABLES THAT ARE CLEARED are long enough still, and all zero

pub ready : (before : WitnessTables) {zeroed : WitnessTables} → zeroed ≡ cleared_witness before → {t : TransitionSets} → EnoughForSheet t before
    → EnoughForSheet t zeroed × (zeroed ≡ cleared_witness zeroed)
ready before e l = rw e (lengths-cleared before l, sym (tables-twice before))

pub ask-ready : (A : Automaton) {s : List ℕ} {before after : ReadTables} {a : Numbers} → SheetRead s before after a → {t : TransitionSets} → EnoughForSheet t before.witness
    → EnoughForSheet t after.witness × (after.witness ≡ cleared_witness after.witness)
ask-ready A {before = before} h long = ready before.witness h.witness long

pub ready-to-read : (before : ReadTables) {zeroed : ReadTables} → zeroed ≡ lent_cleared before → EnoughForSheet before.sets before.witness × (224 ≤ length before.rows)
    → EnoughForSheet zeroed.sets zeroed.witness
    × (224 ≤ length zeroed.rows)
    × (zeroed.sets ≡ cleared_sets zeroed.sets)
    × (zeroed.witness ≡ cleared_witness zeroed.witness)
ready-to-read before e (long, room) =
    rw e (
      record { tables = long-sets-cleared before.sets long.tables; long = long-cleared before.witness long.long },
      room,
      sym (sets-twice before.sets),
      sym (tables-twice before.witness),
    )
