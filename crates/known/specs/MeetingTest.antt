-- Document 01, "Meeting walks", with the states that count by R-4, as tests that compute.
use Rattle.std.specs.Prelude.{ℕ, zero, suc, ◌+◌, ◌*◌, ◌/◌, ◌-◌, Bool, true, not, ◌&&◌, List, eqb, ltb, length, get_or}
use Rattle.sets.specs.Sets.{bit}
use Rattle.automaton.specs.Graph.{Graph, successor_set}
use Rattle.known.specs.Below.{all, any}

-- q is a member of a set
abbrev pub is_member : ℕ → ℕ → Bool
is_member x q = eqb (bit x q) 1

-- q has a transition to r on letter l
unfoldable pub is_edge : Graph → ℕ → ℕ → ℕ → Bool
is_edge G l q r = ltb l G.k && (ltb q G.n && is_member (successor_set G.table q l) r)

-- q begins a path of d transitions
unfoldable pub has_path : Graph → ℕ → ℕ → Bool
has_path G zero q = true
has_path G (suc d) q = any G.k (λ l. any G.n (λ r. is_edge G l q r && has_path G d r))

-- and so an endless one: of n transitions some state comes twice
unfoldable pub is_endless : Graph → ℕ → Bool
is_endless G q = has_path G G.n q

-- two walks on one word of t letters end in q and r
unfoldable pub pair_reached : Graph → ℕ → ℕ → ℕ → Bool
pair_reached G zero q r = is_member G.initial q && is_member G.initial r
pair_reached G (suc t) q r = any G.n (λ x. any G.n (λ y. any G.k (λ l. is_edge G l x q && is_edge G l y r) && pair_reached G t x y))

-- one letter brings two states to one that begins an endless path
unfoldable pub together : Graph → ℕ → ℕ → Bool
together G q r = any G.k (λ l. any G.n (λ z. is_edge G l q z && (is_edge G l r z && is_endless G z)))

-- two walks on one word of t letters end in two states, and one letter brings these to one that begins an endless path
unfoldable pub join_at : Graph → ℕ → Bool
join_at G t = any G.n (λ q. any G.n (λ r. not (eqb q r) && (together G q r && pair_reached G t q r)))

-- no word of at most m letters has meeting walks
unfoldable pub none_up_to : Graph → ℕ → Bool
none_up_to G m = all m (λ t. not (join_at G t))

-- a shortest such word has at most n(n+1)/2 letters
unfoldable pub is_free : Graph → Bool
is_free G = none_up_to G (G.n * (G.n + 1) / 2)

-- x is a walk on a word
unfoldable pub is_walk : Graph → List ℕ → List ℕ → Bool
is_walk G word x =
    eqb (length x) (suc (length word))
    && (is_member G.initial (get_or x 0 0)
    && all (length word) (λ s. is_edge G (get_or word s 0) (get_or x s 0) (get_or x (suc s) 0)))

-- two walks on a word differ somewhere and end in one state, which begins an endless path
unfoldable pub do_meet : Graph → List ℕ → List ℕ → List ℕ → Bool
do_meet G word one other =
    is_walk G word one
    && (is_walk G word other
    && (any (suc (length word)) (λ s. not (eqb (get_or one s 0) (get_or other s 0)))
    && (eqb (get_or one (length word) 0) (get_or other (length word) 0)
    && is_endless G (get_or one (length word) 0))))

-- two walks meet, and on no shorter word do two
unfoldable pub is_shortest : Graph → List ℕ → List ℕ → List ℕ → Bool
is_shortest G word one other = ltb (length word) 137 && (do_meet G word one other && none_up_to G (length word - 1))
