-- That some byte equals b is what `one_of` says, test by test. Assumes nothing.
use Rattle.std.proofs.Common.{◌≡◌, ℕ, ◌||◌, Bool, true, false, List, [], ◌∷◌, eqb, refl, ◌∙◌, arith}
use Rattle.std.proofs.lemmas.Bool.Decides.{nat_tests}
use Rattle.std.specs.List.{list_any}
use Rattle.lists.specs.Choice.{choose}
use Rattle.names.specs.Name.{one_of}
use Rattle.names.proofs.one_of.Goals as goal

either-way : (x b : ℕ) → eqb x b ≡ eqb b x
either-way x b = grind (arith, nat_tests)

or-choose : (t : Bool) {a b : Bool} → a ≡ b → (t || a) ≡ choose t true b
or-choose true e = refl
or-choose false e = e

any-one_of : (b : ℕ) (bytes : List ℕ) → list_any (λ y. eqb y b) bytes ≡ one_of bytes b
unfolding one_of
any-one_of b [] = refl
any-one_of b (x ∷ bytes) = rw (either-way x b) (or-choose (eqb b x) (any-one_of b bytes))

pub returns : goal.returns
returns c = c.contains.ensures.value ∙ any-one_of c.args.b c.args.bytes.now
