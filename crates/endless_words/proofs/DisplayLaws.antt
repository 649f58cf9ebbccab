-- What a display may rely on that follows a tracker's tables job by job (docs/DISPLAY.md). Assumes nothing: the premise is not used.
use Rattle.std.specs.Prelude.{ℕ, suc, ◌+◌, ◌*◌, ◌≤◌, ◌<◌, ◌≡◌, ◌↔◌, List}
use Rattle.std.proofs.Common.{sym, ap, ◌∙◌, subst, arith, add-suc}
use Rattle.tuple_record.specs.Record.{colour_in}
use Rattle.automaton.specs.Automaton.{Automaton, graph_of, Fits}
use Rattle.automaton.specs.Meeting.{Walk}
use Rattle.automaton.specs.EndlessLaws.{reading-walk}
use Rattle.automaton.specs.Reading.{Passes}
use Rattle.endless_words.proofs.WithoutEndLaws.{least-later}
use Rattle.tuple.specs.RunLaws.{is-run}
use Rattle.tuple.specs.DeadLaws.{NoWalk, dead-walkless, alive-walk, dead-after, dead-tuple, idle-dead}
use Rattle.filling.specs.TrackerTables.{TrackerTables, Fitted}
use Rattle.format.specs.Format.{Sheet, Withdrawn}
use Rattle.format.specs.Numbers.{numbers}
use Rattle.format.proofs.NumbersLaws.{sheet-fits, sheet-in-force}
use Rattle.reading.specs.Read.{Accepted}
use Rattle.passes.specs.TableRun.{reached, entered_in}
use Rattle.passes.specs.TableRunLaws.{reached-add}
use Rattle.passes.proofs.FollowLaws.{follows, same_number, entered-colour}
use Rattle.endless_words.specs.EndlessWord.{colours_on, LeastWithoutEnd}

-- NO OTHER MEMORY: of the first t letters nothing counts but the number that they lead to. From it the colours of the letters that follow are entered, and so is the
-- least of those without end. This holds of any tables.
module _ (tables : TrackerTables) (w : ℕ → ℕ) (t : ℕ) where
  -- the colours entered from the number reached, on the letters that are left
  abbrev pub colours_then : ℕ → ℕ
  colours_then s = entered_in tables.tuples tables.nexts (reached tables.nexts 0 w t) (λ i. w (t + i)) s

  pub colours-then : (s : ℕ) → colours_on tables w (t + s) ≡ colours_then s
  colours-then s = ap (colour_in tables.tuples) (ap (reached tables.nexts 0 w) (sym (add-suc t s)) ∙ reached-add tables.nexts 0 w t (suc s))

  pub least-then : (c : ℕ) → LeastWithoutEnd (colours_on tables w) c ↔ LeastWithoutEnd colours_then c
  least-then c =
      let same : (λ s. colours_on tables w (t + s)) ≡ colours_then = λ i s. colours-then s i in
      subst (λ (col : ℕ → ℕ). LeastWithoutEnd (colours_on tables w) c ↔ LeastWithoutEnd col c) same (least-later (colours_on tables w) t c)

-- ON A TRACKER THAT IS BUILT, of a sheet that need not be accepted
module _ {A : Automaton} (fits : Fits A) (room count : ℕ) (before tables : TrackerTables) (fitted : Fitted A room before tables count)
    (w : ℕ → ℕ) (letters : (t : ℕ) → w t < A.k) where
  -- the number is always that of a tuple
  pub number-below : (t : ℕ) → reached tables.nexts 0 w t < count
  number-below t = (follows fits room count before tables fitted w letters t).0

  -- colours are from 1 to 2n+1
  pub colour-range : (t : ℕ) → (1 ≤ colours_on tables w t) × (colours_on tables w t ≤ 2 * A.n + 1)
  colour-range t =
      let e = entered-colour fits room count before tables fitted w letters t in
      let R = is-run fits w letters in
      let a = R.col-pos t in
      let b = R.col-top t in
      (omega arith, omega arith)

  -- COLOUR 1 is entered exactly if no walk is left on the letters so far
  pub broken-exactly : (t : ℕ) → (colours_on tables w t ≡ 1) ↔ NoWalk (graph_of A) w (suc t)
  broken-exactly t =
      let e = entered-colour fits room count before tables fitted w letters t in
      let d = dead-walkless fits w letters t in
      (λ one. d.0 (sym e ∙ one), λ none. e ∙ d.1 none)

  -- and with any other some walk is left
  pub walk-left : (t : ℕ) → (colours_on tables w t ≡ 1 → ⊥) → (x : ℕ → ℕ) × Walk (graph_of A) w (suc t) x
  walk-left t other = alive-walk fits w letters t (λ one. other (entered-colour fits room count before tables fitted w letters t ∙ one))

  -- with colour 1 the display stays where it is, for ever
  pub broken-stays : (t u : ℕ) → t ≤ u → colours_on tables w t ≡ 1
      → (colours_on tables w u ≡ 1) × (reached tables.nexts 0 w (suc u) ≡ reached tables.nexts 0 w (suc t))
  broken-stays t u l one =
      let e = entered-colour fits room count before tables fitted w letters in
      let here = sym (e t) ∙ one in
      let there = dead-after fits w letters t u l here in
      (e u ∙ there, same_number fits room count before tables fitted w letters (suc u) (suc t) (dead-tuple fits w letters u there ∙ sym (dead-tuple fits w letters t here)))

  -- and whatever comes, no reading is left
  pub broken-fails : (t : ℕ) → colours_on tables w t ≡ 1 → Passes A w → ⊥
  broken-fails t one (x, reading, recurs) = (broken-exactly t).0 one x (reading-walk reading (suc t))

-- A WITHDRAWN LETTER, where its number is followed all the same: it breaks the rule
pub withdrawn-breaks : {s : List ℕ} {σ : Sheet} → Accepted s σ → (room count : ℕ) (before tables : TrackerTables) → Fitted (numbers σ) room before tables count
    → (w : ℕ → ℕ) → ((t : ℕ) → w t < (numbers σ).k) → (t : ℕ) → Withdrawn σ.withdrawals (w t) → colours_on tables w t ≡ 1
withdrawn-breaks {s} {σ} accepted room count before tables fitted w letters t withdrawn =
    let fits = sheet-fits s σ accepted.file in
    entered-colour fits room count before tables fitted w letters t
    ∙ idle-dead fits w letters t (λ q r e. sheet-in-force s σ accepted.file (w t) q r e withdrawn)
