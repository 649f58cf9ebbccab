-- Document 01's Sheet B, "from some job on only a": the four tuples of its listing, by computation.
use Rattle.std.specs.Prelude.{◌≡◌, refl, [], ◌∷◌, ◌++◌, map}
use Rattle.automaton.specs.Automaton.{Automaton}
use Rattle.automaton.specs.declared.Edition.TheVariants.{StateBased}
use Rattle.tuple.specs.Step.{Tuple, first, next}
use Rattle.tuple.specs.Unfold.{tuple_unfold}

sheet_b : Automaton
sheet_b = record { edition = StateBased; n = 2; k = 2; initial = 3; recurring = 2; table = 1 ∷ 3 ∷ 0 ∷ 0 ∷ 0 ∷ 0 ∷ 0 ∷ 0 ∷ 2 ∷ []; marks = [] }

t0 : Tuple
t0 = record { sets = 3 ∷ []; colour = 5 }

t1 : Tuple
t1 = record { sets = 3 ∷ 2 ∷ []; colour = 5 }

t2 : Tuple
t2 = record { sets = 3 ∷ 2 ∷ []; colour = 4 }

t3 : Tuple
t3 = record { sets = 3 ∷ 2 ∷ []; colour = 3 }

-- the first tuple, and the next ones on a and on b
listing : (first sheet_b ∷ map (next sheet_b 0) (t0 ∷ t1 ∷ t2 ∷ t3 ∷ [])) ++ map (next sheet_b 1) (t0 ∷ t1 ∷ t2 ∷ t3 ∷ [])
    ≡ t0 ∷ t1 ∷ t2 ∷ t2 ∷ t2 ∷ t1 ∷ t3 ∷ t3 ∷ t3 ∷ []
unfolding tuple_unfold sheet_b t0 t1 t2 t3
listing = refl
