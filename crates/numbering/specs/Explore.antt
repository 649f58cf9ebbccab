-- The tuples of a tracker in the order in which they are found: "tuple by tuple, letters ascending". These definitions compute; that they
-- give the numbering of Numbering.antt is a theorem of NumberingLaws.antt.
use Rattle.std.specs.Prelude.{ℕ, zero, suc, ◌/◌, ◌%◌, Bool, ◌&&◌, List, [], ◌∷◌, ◌++◌, eqb, ltb, length}
use Rattle.lists.specs.Choice.{choose}
use Rattle.lists.specs.Search.{same, first_that}
use Rattle.automaton.specs.Automaton.{Automaton}
use Rattle.tuple.specs.Step.{Tuple, first}
use Rattle.numbering.specs.Numbering.{entered}

-- "Tuples are equal when sets and colour are."
unfoldable pub same_tuple : Tuple → Tuple → Bool
same_tuple u v = same u.sets v.sets && eqb u.colour v.colour

-- the number of a tuple in a list, and the list's length where it is not there
abbrev pub tuple_number : Tuple → List Tuple → ℕ
tuple_number u ts = first_that (same_tuple u) ts

-- a tuple behind those of a list, where it is new
unfoldable pub add_new : List Tuple → Tuple → List Tuple
add_new ts u = choose (ltb (tuple_number u ts) (length ts)) ts (ts ++ (u ∷ []))

-- step c, from tuple c / 8 on letter c % 8: there may be no such tuple or no such letter
unfoldable pub step : Automaton → ℕ → List Tuple → List Tuple
step A c ts = choose (ltb (c / 8) (length ts) && ltb (c % 8) A.k) (add_new ts (entered A ts c)) ts

-- the tuples that are found before step c
unfoldable pub found : Automaton → ℕ → List Tuple
found A zero = first A ∷ []
found A (suc c) = step A c (found A c)
