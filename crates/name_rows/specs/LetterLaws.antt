-- The letter of a name is the first whose composed name it has. Assumes nothing.
use Rattle.std.specs.Prelude.{ℕ, ◌≡◌, List, [], map, get_or}
use Rattle.std.proofs.Math.ListN.{get_or-map}
use Rattle.lists.specs.Search.{same}
use Rattle.lists.specs.SearchLaws.{tells-same, first_found, first_one}
use Rattle.names.specs.Name.{compose}
use Rattle.name_rows.specs.Rows.{FirstName, letter_of}

pub letter-first : (names : List (List ℕ)) (x : List ℕ) → FirstName names x (letter_of names x)
letter-first names x = first_found [] x (λ y. same y x) (tells-same x) names

pub letter-is : (names : List (List ℕ)) (x : List ℕ) (l : ℕ) → FirstName names x l → letter_of names x ≡ l
letter-is names x l f = first_one [] x names (letter_of names x) l (letter-first names x) f

-- a composed name is the composed one of its letter
pub composed-at : (names : List (List ℕ)) (l : ℕ) → get_or (map compose names) l [] ≡ compose (get_or names l [])
unfolding compose
composed-at names l = get_or-map compose names l []
