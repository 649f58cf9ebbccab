-- The numbers that a tracker's tables lead through are those of the tuples of the run. Assumes nothing.
use Prim.Native.Nat.{ℕ, zero, suc, ◌+◌, ◌*◌, ◌/◌, ◌%◌, ◌<◌}
use Rattle.std.specs.Prelude.{◌≡◌, List, length}
use Rattle.std.proofs.Common.{sym, ◌∙◌, ap, subst}
use native.Mathlib.Omega.{arith}
use Rattle.automaton.specs.Automaton.{Automaton, Fits}
use Rattle.tuple.specs.Step.{Tuple, run, colour_entered}
use Rattle.numbering.specs.Numbering.{tuple_at, Numbering}
use Rattle.numbering.proofs.NumberingLaws.{numbers_apart}
use Rattle.filling.specs.TrackerTables.{TrackerTables, EnoughForTracker, Fitted}
use Rattle.filling.proofs.FittedLaws.{fitted-colour, fitted-next, fitted-room}
use Rattle.passes.specs.declared.Verdict.{Verdict}
use Rattle.passes.specs.Passes.{LeastOf, Judges}
use Rattle.passes.specs.TableRun.{TablesFit, reached, entered_in, TableJudges}

-- The tables g hold the tracker of A
module _ {A : Automaton} (fits : Fits A) (room count : ℕ) (f g : TrackerTables) (fitted : Fitted A room f g count) where
  abbrev ts : List Tuple
  ts = fitted.list

  abbrev numbering : Numbering A ts
  numbering = fitted.holds.numbering

  -- the tables are fit to be judged on
  pub tables-fit : EnoughForTracker room f → TablesFit g.tuples g.nexts count
  tables-fit roomy = record { room = fitted-room A fits room count f g fitted roomy; numbers = fitted-next A fits room count f g fitted }

  module _ (w : ℕ → ℕ) (letters : (t : ℕ) → w t < A.k) where
    -- THE LAW: after t letters the table's number is that of the run's tuple
    pub follows : (t : ℕ) → (reached g.nexts 0 w t < count) × (tuple_at A ts (reached g.nexts 0 w t) ≡ run A w t)
    unfolding reached run
    follows zero = (omega (arith, fitted.count-is, numbering.some), numbering.begins)
    follows (suc t) =
        let (l, e) = follows t in
        let k = letters t in
        let m = fits.range.3 in
        let n = fitted.count-is in
        let c = 8 * reached g.nexts 0 w t + w t in
        let q : c / 8 ≡ reached g.nexts 0 w t = omega arith in
        let r : c % 8 ≡ w t = omega arith in
        let (x, y) = fitted.holds.nexts.next c (omega arith) (omega arith) in
        (omega arith, y ∙ rw (r, q, e))

    below : (t : ℕ) → reached g.nexts 0 w t < length ts
    below t = omega (arith, (follows t).0, fitted.count-is)

    -- so equal numbers are equal tuples
    same-tuple : (s t : ℕ) → reached g.nexts 0 w s ≡ reached g.nexts 0 w t → run A w s ≡ run A w t
    same-tuple s t e = sym (follows s).1 ∙ (ap (tuple_at A ts) e ∙ (follows t).1)

    pub same_number : (s t : ℕ) → run A w s ≡ run A w t → reached g.nexts 0 w s ≡ reached g.nexts 0 w t
    same_number s t e =
        numbers_apart A ts numbering.distinct (reached g.nexts 0 w s) (reached g.nexts 0 w t) (below s) (below t) ((follows s).1 ∙ (e ∙ sym (follows t).1))

    pub entered-colour : (t : ℕ) → entered_in g.tuples g.nexts 0 w t ≡ colour_entered A w t
    entered-colour t =
        fitted-colour A fits room count f g fitted (reached g.nexts 0 w (suc t)) (follows (suc t)).0
        ∙ ap (λ u. u.colour) (follows (suc t)).1

    -- the verdict by numbers is the verdict by tuples
    pub judges : (m c : ℕ) (z : Verdict) → TableJudges g.tuples g.nexts count w m c z → Judges A w m c z
    judges m c z h = record {
      earlier = h.earlier;
      repeat = record {
        earlier = h.repeat.earlier;
        equal = same-tuple (m + h.earlier * c) (m + z.passes * c) h.repeat.equal;
        first = λ i j l k e. h.repeat.first i j l k (same_number (m + i * c) (m + j * c) e);
      };
      least = subst (λ (f : ℕ → ℕ). LeastOf f (m + h.earlier * c) (m + z.passes * c) z.least) (λ i t. entered-colour t i) h.least;
      answer = h.answer;
    }
