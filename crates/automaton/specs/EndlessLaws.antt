-- Endless paths go on from each of their states, so every state of a reading begins one; and a transition into such a state leaves such a state.
-- Assumes nothing.
use Rattle.std.specs.Prelude.{ℕ, zero, suc, refl}
use Rattle.std.proofs.Common.{sym, subst}
use Rattle.finite.specs.Paths.{preceded, preceded-first, preceded-goes}
use Rattle.automaton.specs.Graph.{Graph, Edge}
use Rattle.automaton.specs.Meeting.{Walk, Everywhere, Free}
use Rattle.automaton.specs.MeetingLaws.{free-fewer}
use Rattle.automaton.specs.Reading.{Reading}
use Rattle.automaton.specs.Endless.{EndlessPath, EndlessFrom, MeetingFree}

pub path-endless : {G : Graph} (x : ℕ → ℕ) → EndlessPath G x → (t : ℕ) → EndlessFrom G (x t)
path-endless x path zero = (x, refl, path)
path-endless x path (suc t) = path-endless (λ s. x (suc s)) (λ s. path (suc s)) t

-- EVERY STATE OF A READING begins an endless path: the one bridge from question 10 to demand 3
pub reading-endless : {G : Graph} (w x : ℕ → ℕ) → Reading G w x → (t : ℕ) → EndlessFrom G (x t)
reading-endless w x reading = path-endless x (λ t. (w t, reading.goes t))

-- and the first letters of a reading are walked
pub reading-walk : {G : Graph} {w x : ℕ → ℕ} → Reading G w x → (t : ℕ) → Walk G w t x
reading-walk reading t = record { starts = reading.starts; goes = λ s l. reading.goes s }

-- the first transition of an endless path
pub endless-step : {G : Graph} {q : ℕ} → EndlessFrom G q → (l : ℕ) × (r : ℕ) × Edge G l q r × EndlessFrom G r
endless-step {G} (x, e, path) = let (l, h) = path 0 in (l, x 1, subst (λ (z : ℕ). Edge G l z (x 1)) e h, path-endless x path 1)

pub endless-back : {G : Graph} (l q r : ℕ) → Edge G l q r → EndlessFrom G r → EndlessFrom G q
endless-back {G} l q r e (x, h, path) = (
  preceded q x,
  preceded-first q x,
  λ t. preceded-goes (λ q r. (l : ℕ) × Edge G l q r) q x (l, subst (Edge G l q) (sym h) e) t (λ s z. path s),
)

-- NOTHING THAT WAS ACCEPTED IS REFUSED: a sheet without walks that meet anywhere is free of meeting walks
pub free-everywhere : {G : Graph} → Free G Everywhere → MeetingFree G
free-everywhere = free-fewer (λ q h. tt)
