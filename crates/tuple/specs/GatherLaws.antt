-- The marking pass may gather what marked places remove, and remove it at each later place's turn. Assumes nothing.
use Rattle.std.specs.Prelude.{ℕ, ◌≡◌, refl, Bool, true, false, not, ◌&&◌, List, [], ◌∷◌}
use Rattle.std.proofs.Common.{sym, ap, ap₂, ◌∙◌}
use Rattle.sets.specs.Sets.{union_of, minus_of, is_within, is_empty}
use Rattle.sets.specs.SetLaws.{zero_minus, minus-zero, minus_minus, union-minus}
use Rattle.sets.specs.TestLaws.{within-left}
use Rattle.tuple.specs.Step.{union_all, is_marked, minus_each, removed, place, pass}
use Rattle.tuple.specs.PassLaws.{pass-cons}
use Rattle.tuple.specs.Parts.{out_of}

minus-each : (a b : ℕ) (l : List ℕ) → minus_each b (minus_each a l) ≡ minus_each (union_of a b) l
minus-each a b [] = refl
minus-each a b (y ∷ l) = ap₂ (λ (x : ℕ) (t : List ℕ). x ∷ t) (minus_minus y a b) (minus-each a b l)

pub minus-each-none : (l : List ℕ) → minus_each 0 l ≡ l
minus-each-none [] = refl
minus-each-none (y ∷ l) = ap₂ (λ (x : ℕ) (t : List ℕ). x ∷ t) (minus-zero y) (minus-each-none l)

union-each : (o : ℕ) (l : List ℕ) → union_all (minus_each o l) ≡ minus_of (union_all l) o
unfolding union_all
union-each o [] = sym (zero_minus o)
union-each o (x ∷ l) = ap (union_of (minus_of x o)) (union-each o l) ∙ union-minus x (union_all l) o

marked-left : (x o : ℕ) (l : List ℕ)
    → is_marked (minus_of x o) (union_all (minus_each o l)) ≡ is_marked (minus_of x o) (union_all l)
unfolding is_marked
marked-left x o l =
    ap (λ (b : Bool). not (is_empty (minus_of x o)) && b) (ap (is_within (minus_of x o)) (union-each o l) ∙ within-left x (union_all l) o)

removed-left : (m : Bool) (x o : ℕ) (l : List ℕ) → removed m x (minus_each o l) ≡ minus_each (out_of m o x) l
unfolding removed out_of
removed-left true x o l = minus-each o x l
removed-left false x o l = refl

-- one turn: o is removed from x and the places behind it
pub pass-turn : (x o : ℕ) (m : Bool) (l : List ℕ) → m ≡ is_marked (minus_of x o) (union_all l)
    → pass (minus_each o (x ∷ l)) ≡ place (minus_of x o) m ∷ pass (minus_each (out_of m o (minus_of x o)) l)
pass-turn x o m l e =
    let k : is_marked (minus_of x o) (union_all (minus_each o l)) ≡ m = marked-left x o l ∙ sym e in
    pass-cons (minus_of x o) (minus_each o l) ∙ rw (k, removed-left m (minus_of x o) o l)
