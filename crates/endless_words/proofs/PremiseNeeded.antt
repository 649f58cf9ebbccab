-- WHY THE PREMISE IS THERE: from the theorem's statement for the tracker of one small accepted sheet the premise follows. So nothing weaker would do.
use Prim.Native.Nat.{ℕ, zero, suc, ◌≤◌, ◌<◌}
use Rattle.std.specs.Prelude.{◌≡◌, refl, Bool, true, false, ◌||◌, ◌⊎◌, [], ◌∷◌}
use Rattle.std.proofs.Common.{◌∙◌, inl, inr, arith}
use Rattle.std.proofs.Math.Path.{ap}
use Rattle.std.proofs.Math.Bool.{or-true}
use Rattle.std.proofs.Math.Decide.{ℕ_discrete}
use Rattle.sets.specs.SetLaws.{member-lt, no_member}
use Rattle.automaton.specs.Automaton.{Automaton, graph_of, Fits, MarksFit}
use Rattle.automaton.specs.EdgeLaws.{walk-in}
use Rattle.automaton.specs.QuestionLaws.{fits-graph}
use Rattle.automaton.specs.Graph.{CellFits}
use Rattle.automaton.specs.Endless.{MeetingFree}
use Rattle.automaton.specs.declared.Edition.TheVariants.{TransitionBased}
use Rattle.tuple.specs.Step.{next, run, colour_entered}
use Rattle.tuple.specs.Unfold.{tuple_unfold}
use Rattle.filling.specs.TrackerTables.{TrackerTables, Fitted}
use Rattle.passes.proofs.FollowLaws.{entered-colour}
use Rattle.theory.specs.Endless.{LPO}
use Rattle.endless_words.specs.EndlessWord.{colours_on, TracksWords}

-- THE SHEET, an SHT-2: one state, which goes on on both letters; the transition on letter 0 is marked
abbrev pub one_mark : Automaton
one_mark = record { edition = TransitionBased; n = 1; k = 2; initial = 1; recurring = 0; table = 1 ∷ 1 ∷ []; marks = 1 ∷ [] }

one_cell : (i : ℕ) → CellFits (graph_of one_mark) i
one_cell zero = record { within = λ r m. member-lt 1 1 r (omega arith) m; empty = λ f. absurd (f (omega arith) (omega arith)) }
one_cell (suc zero) = record { within = λ r m. member-lt 1 1 r (omega arith) m; empty = λ f. absurd (f (omega arith) (omega arith)) }
one_cell (suc (suc i)) = record { within = λ r m. absurd (no_member r m); empty = λ f. refl }

pub one-fits : Fits one_mark
one-fits = record {
  range = (omega arith, omega arith, omega arith, omega arith);
  states = (λ q m. member-lt 1 1 q (omega arith) m, refl);
  cells = one_cell;
  marks = marks;
}
  where
    marks : MarksFit one_mark
    marks zero r m = m
    marks (suc i) r m = absurd (no_member r m)

-- its walks stay in the one state, so none are different
pub one_free : MeetingFree (graph_of one_mark)
one_free w t x y meet =
    let (s, l, differ) = meet.differ in
    let a = walk-in (graph_of one_mark) (fits-graph one-fits) w t x meet.one s l in
    let b = walk-in (graph_of one_mark) (fits-graph one-fits) w t y meet.other s l in
    differ (omega arith)

-- ITS COLOURS: 2 on letter 0, and 3 on letter 1
shown : ℕ → ℕ
shown zero = 2
shown (suc l) = 3

one-step : (l : ℕ) → l < 2 → (c : ℕ) → next one_mark l (record { sets = 1 ∷ []; colour = c }) ≡ record { sets = 1 ∷ []; colour = shown l }
unfolding tuple_unfold shown
one-step zero h c = refl
one-step (suc zero) h c = refl
one-step (suc (suc l)) h c = absurd (omega arith)

module _ (w : ℕ → ℕ) (letters : (t : ℕ) → w t < 2) where
  one_set : (t : ℕ) → (c : ℕ) × (run one_mark w t ≡ record { sets = 1 ∷ []; colour = c })
  unfolding tuple_unfold
  one_set zero = (3, refl)
  one_set (suc t) = let (c, e) = one_set t in (shown (w t), ap (next one_mark (w t)) e ∙ one-step (w t) (letters t) c)

  one-colour : (t : ℕ) → colour_entered one_mark w t ≡ shown (w t)
  unfolding run
  one-colour t = let (c, e) = one_set t in ap (λ u. u.colour) (ap (next one_mark (w t)) e ∙ one-step (w t) (letters t) c)

-- A ROW OF YES AND NO AS A WORD: letter 0 as soon as there was a yes
seen : (ℕ → Bool) → ℕ → Bool
seen row zero = row 0
seen row (suc t) = row (suc t) || seen row t

letter : Bool → ℕ
letter true = 0
letter false = 1

letter-below : (b : Bool) → letter b < 2
unfolding letter
letter-below true = omega arith
letter-below false = omega arith

seen-some : (row : ℕ → Bool) (t : ℕ) → seen row t ≡ true → (s : ℕ) × (row s ≡ true)
unfolding seen
seen-some row zero e = (0, e)
seen-some row (suc t) e = by (row (suc t)) refl (seen-some row t) e
  where
    by : (b : Bool) → row (suc t) ≡ b → (seen row t ≡ true → (s : ℕ) × (row s ≡ true)) → b || seen row t ≡ true → (s : ℕ) × (row s ≡ true)
    by true h before e = (suc t, h)
    by false h before e = before e

seen-after : (row : ℕ → Bool) (s t : ℕ) → s ≤ t → row s ≡ true → seen row t ≡ true
unfolding seen
seen-after row s zero l e = let z : 0 ≡ s = omega arith in rw z e
seen-after row s (suc t) l e = by (ℕ_discrete s (suc t)) (λ m. seen-after row s t m e)
  where
    by : Dec (s ≡ suc t) → (s ≤ t → seen row t ≡ true) → row (suc t) || seen row t ≡ true
    by (yes z) before = rw (← z) (rw e refl)
    by (no z) before = rw (before (omega arith)) (or-true (row (suc t)))

-- THE PREMISE, from the tracker of this sheet in any tables
module _ {room count : ℕ} {before tables : TrackerTables} (fitted : Fitted one_mark room before tables count) (tracks : TracksWords one_mark tables) where
  decided : (row : ℕ → Bool) → ((t : ℕ) × (row t ≡ true)) ⊎ ((t : ℕ) → row t ≡ true → ⊥)
  unfolding shown letter
  decided row = by (tracks w letters).least.entered
    where
      w : ℕ → ℕ
      w t = letter (seen row t)

      letters : (t : ℕ) → w t < 2
      letters t = letter-below (seen row t)

      c : ℕ
      c = (tracks w letters).colour

      colour-is : (t : ℕ) → colours_on tables w t ≡ shown (w t)
      colour-is t = entered-colour one-fits room count before tables fitted w letters t ∙ one-colour w letters t

      -- a yes: from there on the colour is 2; none up to u: there it is 3
      after-yes : (s t : ℕ) → s ≤ t → row s ≡ true → colours_on tables w t ≡ 2
      after-yes s t l e = colour-is t ∙ ap (λ (b : Bool). shown (letter b)) (seen-after row s t l e)

      up_to : (u : ℕ) → seen row u ≡ false → colours_on tables w u ≡ 3
      up_to u e = colour-is u ∙ ap (λ (b : Bool). shown (letter b)) e

      by : ((t : ℕ) → (u : ℕ) × (t ≤ u) × (colours_on tables w u ≡ c)) → ((t : ℕ) × (row t ≡ true)) ⊎ ((t : ℕ) → row t ≡ true → ⊥)
      by entered = let (u, l, e) = entered 0 in at u e (seen row u) refl
        where
          at : (u : ℕ) → colours_on tables w u ≡ c → (b : Bool) → seen row u ≡ b → ((t : ℕ) × (row t ≡ true)) ⊎ ((t : ℕ) → row t ≡ true → ⊥)
          at u e true h = inl (seen-some row u h)
          at u e false h = inr (λ t yes. let (v, l, f) = entered t in let a = after-yes t v l yes in let b = up_to u h in omega arith)

  pub premise-needed : LPO
  unfolding LPO
  premise-needed = decided
