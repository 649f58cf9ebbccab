-- THE KNOWN CASES of document 01 that are marked *: one theorem over one table. The test of every case computes, and a case whose test
-- computes to true is forced. Assumes nothing.
use Rattle.std.specs.Prelude.{◌≡◌, refl, true}
use Rattle.std.proofs.Common.{sym, subst}
use Rattle.std.proofs.Math.Bool.{and-eq-true_iff}
use mathlib.Core.List.{List, [], ◌∷◌, Memᴰ}
use Rattle.known.specs.Case.{Case, Forced}
use Rattle.known.specs.Cases.{cases}
use Rattle.known.specs.CaseTest.{right, all_right}
use Rattle.known.specs.Unfold.{known_unfold}
use Rattle.known.specs.CaseLaws.{right-forced}

-- every case is computed right
computed : all_right cases ≡ true
unfolding known_unfold
computed = refl

all-forced : (cs : List Case) → all_right cs ≡ true → (c : Case) → Memᴰ c cs → Forced c
unfolding all_right
all-forced [] e c m = elim m [ ]
all-forced (x ∷ cs) e c (Memᴰ.head p) = subst Forced (sym p) (right-forced x ((and-eq-true_iff (right x) (all_right cs)).0 e).0)
all-forced (x ∷ cs) e c (Memᴰ.tail m) = all-forced cs ((and-eq-true_iff (right x) (all_right cs)).0 e).1 c m

-- THE THEOREM: of each case of the table, the definitions allow no outcome but the expected one
pub known : (c : Case) → Memᴰ c cases → Forced c
known = all-forced cases computed
