-- What holds of every tuple that a step enters, whatever tuple it leaves. Assumes nothing.
use Prim.Native.Nat.{ℕ, zero, suc, ◌^◌, ◌<◌}
use Rattle.std.specs.Prelude.{◌≡◌, false, List, [], ◌∷◌, length}
use Rattle.std.proofs.Common.{arith}
use Rattle.sets.specs.Sets.{Member}
use Rattle.sets.specs.SetLaws.{no_member, not-empty, small-of-within}
use Rattle.automaton.specs.Automaton.{Automaton, Fits}
use Rattle.tuple.specs.Step.{Tuple, Formed, place_set, places, Place, place, pass, close_up, first, next, run}
use Rattle.tuple.specs.PassLaws.{In, After, kept}
use Rattle.tuple.specs.CloseLaws.{rank, move, move⁻, full, room, close_up-length}
use Rattle.tuple.specs.ColourLaws.{col-top}
use Rattle.tuple.specs.PlaceLaws.{places-state}

-- each set is a number below 2^n
pub small : {A : Automaton} {u : Tuple} → Formed A u → (i : ℕ) → place_set u.sets i < 2 ^ A.n
small {A} {u} f i = small-of-within (place_set u.sets i) A.n (f.states i)

-- the tuple before the first letter, as the closing up of one place
first-places : Automaton → List Place
first-places A = place A.initial false ∷ []

pub first-in : (A : Automaton) (j q : ℕ) → In (first A).sets j q → (j ≡ 0) × Member A.initial q
unfolding first first-places close_up rank
first-in A j q h = let (k, e, a) = move⁻ (first-places A) j q h in at k e a
  where
    at : (k : ℕ) → j ≡ rank k (first-places A) → After (first-places A) k q → (j ≡ 0) × Member A.initial q
    at zero e a = (e, a)
    at (suc k) e a = absurd (no_member q a)

pub first_member : (A : Automaton) (q : ℕ) → Member A.initial q → In (first A).sets 0 q
unfolding first first-places close_up rank
first_member A q h = move (first-places A) 0 q h

module _ {A : Automaton} (fits : Fits A) where
  pub first-formed : Formed A (first A)
  unfolding first first-places close_up
  first-formed = record {
    few = (let a = close_up-length (first-places A) in let b = fits.range.0 in omega arith);
    full = λ i h. not-empty (place_set (first A).sets i) (full (first-places A) i h);
    states = λ i q h. fits.states.0 q (first-in A i q h).1;
    most-colour = omega arith;
  }

  module _ (l : ℕ) (letter : l < A.k) (u : Tuple) where
    next-state : (i q : ℕ) → In (next A l u).sets i q → q < A.n
    unfolding next pass
    next-state i q h =
        let b = places A l u.sets in
        let (j, e, a) = move⁻ (pass b) i q h in
        places-state fits l letter u.sets j q (kept (length b) b j q a)

    pub next-formed : Formed A (next A l u)
    unfolding next pass
    next-formed = record {
      few = room A.n (length (places A l u.sets)) (places A l u.sets) (places-state fits l letter u.sets);
      full = λ i h. not-empty (place_set (next A l u).sets i) (full (pass (places A l u.sets)) i h);
      states = next-state;
      most-colour = col-top A.n (length u.sets) (pass (places A l u.sets));
    }

  pub run-formed : (w : ℕ → ℕ) → ((t : ℕ) → w t < A.k) → (t : ℕ) → Formed A (run A w t)
  unfolding run
  run-formed w letters zero = first-formed
  run-formed w letters (suc t) = next-formed (w t) (letters t) (run A w t)
