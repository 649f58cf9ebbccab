-- Colour 1, "1 if set 0 is empty": it is entered just when no walk is on the letters read, and then for ever. Assumes nothing.
use Prim.Native.Nat.{ℕ, suc, ◌≤◌, ◌<◌}
use Rattle.std.specs.Prelude.{◌≡◌, refl, ◌⊎◌, ◌↔◌, List, [], ◌∷◌, length}
use Rattle.std.proofs.Common.{subst, inl, inr, arith}
use Rattle.std.proofs.Math.Decide.{ℕ_discrete}
use Rattle.sets.specs.Sets.{Member}
use Rattle.sets.specs.SetLaws.{some-member, no_member}
use Rattle.sets.specs.TestLaws.{empty_of}
use Rattle.automaton.specs.Automaton.{Automaton, graph_of, Fits}
use Rattle.automaton.specs.Graph.{Graph, Edge}
use Rattle.automaton.specs.Meeting.{Walk}
use Rattle.colour.specs.Colour.{dead, dead_or}
use Rattle.theory.specs.Run.{None}
use Rattle.theory.proofs.Basic.{at_place, zero-kept}
use Rattle.tuple.specs.Step.{Tuple, Place, place_set, places, pass, set_at_place, colour_of, next, run, colour_entered}
use Rattle.tuple.specs.PassLaws.{In, After}
use Rattle.tuple.specs.TupleLaws.{run-formed}
use Rattle.tuple.specs.RunLaws.{is-run, set-zero}

-- no walk is on the first t letters of w
abbrev pub NoWalk : Graph → (ℕ → ℕ) → ℕ → Type 0
NoWalk G w t = (x : ℕ → ℕ) → Walk G w t x → ⊥

-- on more letters there is none either
none-longer : {G : Graph} {w : ℕ → ℕ} {t u : ℕ} → t ≤ u → NoWalk G w t → NoWalk G w u
none-longer l none x walk = none x (record { starts = walk.starts; goes = λ s m. walk.goes s (omega arith) })

-- the one tuple that is entered with colour 1
abbrev pub dead_tuple : Tuple
dead_tuple = record { sets = []; colour = dead }

colour-dead : (n p : ℕ) (w : List Place) → None (After w 0) → colour_of n p w ≡ dead
unfolding colour_of dead_or
colour-dead n p w none = rw (empty_of (set_at_place w 0) none)

no-sets : (sets : List ℕ) → ((i : ℕ) → i < length sets → place_set sets i ≡ 0 → ⊥) → None (In sets 0) → sets ≡ []
no-sets [] full none = refl
no-sets (x ∷ sets) full none = let (q, m) = some-member x (full 0 (omega arith)) in absurd (none q m)

module _ {A : Automaton} (fits : Fits A) (w : ℕ → ℕ) (letters : (t : ℕ) → w t < A.k) where
  dead-none : (t : ℕ) → colour_entered A w t ≡ dead → NoWalk (graph_of A) w (suc t)
  dead-none t e x walk = by ((is-run fits w letters).col-odd t 0 e)
    where
      start : In (run A w t).sets 0 (x t)
      start = (set-zero fits w letters t (x t)).1 (x, record { starts = walk.starts; goes = λ s l. walk.goes s (omega arith) }, refl)

      by : (0 ≡ A.n) ⊎ (None (After (pass (places A (w t) (run A w t).sets)) 0) × ((0 < length (run A w t).sets) ⊎ (◌≡◌ {A = ℕ} 0 0))) → ⊥
      by (inl z) = let n = fits.range.0 in omega arith
      by (inr (none, z)) = none (x (suc t)) (zero-kept (is-run fits w letters) t (x t) (x (suc t)) start (walk.goes t (omega arith)))

  none-dead : (t : ℕ) → NoWalk (graph_of A) w (suc t) → colour_entered A w t ≡ dead
  unfolding run next
  none-dead t f = colour-dead A.n (length (run A w t).sets) (pass (places A (w t) (run A w t).sets)) none
    where
      none : None (After (pass (places A (w t) (run A w t).sets)) 0)
      none r h =
          let R = is-run fits w letters in
          let (x, walk, end) = (set-zero fits w letters (suc t) r).0 (at_place (λ t. In (run A w t).sets) {t = suc t} (R.rank-zero t) (R.move t 0 r h)) in
          f x walk

  -- letter t enters colour 1 exactly if no walk is on the letters up to and with it
  pub dead-walkless : (t : ℕ) → (colour_entered A w t ≡ dead) ↔ NoWalk (graph_of A) w (suc t)
  dead-walkless t = (dead-none t, none-dead t)

  -- with any other colour set 0 has a member, and a walk ends there
  pub alive-walk : (t : ℕ) → (colour_entered A w t ≡ dead → ⊥) → (x : ℕ → ℕ) × Walk (graph_of A) w (suc t) x
  alive-walk t alive = by (ℕ_discrete (place_set (run A w (suc t)).sets 0) 0)
    where
      by : Dec (place_set (run A w (suc t)).sets 0 ≡ 0) → (x : ℕ → ℕ) × Walk (graph_of A) w (suc t) x
      by (yes e) =
          absurd (alive (none-dead t (λ x walk.
          no_member (x (suc t)) (subst (λ (z : ℕ). Member z (x (suc t))) e ((set-zero fits w letters (suc t) (x (suc t))).1 (x, walk, refl))))))
      by (no f) =
          let (q, m) = some-member (place_set (run A w (suc t)).sets 0) f in
          let (x, walk, end) = (set-zero fits w letters (suc t) q).0 m in
          (x, walk)

  -- so every later letter enters colour 1 too
  pub dead-after : (t u : ℕ) → t ≤ u → colour_entered A w t ≡ dead → colour_entered A w u ≡ dead
  dead-after t u l e = none-dead u (none-longer (omega arith) (dead-none t e))

  -- and a letter without transitions
  pub idle-dead : (t : ℕ) → ((q r : ℕ) → Edge (graph_of A) (w t) q r → ⊥) → colour_entered A w t ≡ dead
  idle-dead t idle = none-dead t (λ x walk. idle (x t) (x (suc t)) (walk.goes t (omega arith)))

  pub dead-tuple : (t : ℕ) → colour_entered A w t ≡ dead → run A w (suc t) ≡ dead_tuple
  dead-tuple t e = λ i. record { sets = empty i; colour = e i }
    where
      empty : (run A w (suc t)).sets ≡ []
      empty =
          no-sets (run A w (suc t)).sets (run-formed fits w letters (suc t)).full
          (λ q m. let (x, walk, end) = (set-zero fits w letters (suc t) q).0 m in dead-none t e x walk)
