-- The queue of a breadth-first search: the pairs of states in which two walks on one word end, in the order in which they are found.
-- One table of 528 numbers holds it. Number i is pair i, as 256 · depth + 16 · one + other; the depth is the word's length.
-- Number 256 + i says where pair i comes from, as 8 · parent + letter. Number 512 + p is the set of the states found together with p.
use Rattle.std.specs.Prelude.{ℕ, ◌+◌, ◌/◌, ◌%◌, ◌≤◌, ◌<◌, ◌≡◌, List, length, get_or}
use Rattle.sets.specs.Sets.{Member}

abbrev pub pair : List ℕ → ℕ → ℕ
pair T i = get_or T i 0

abbrev pub origin : List ℕ → ℕ → ℕ
origin T i = get_or T (256 + i) 0

abbrev pub companions : List ℕ → ℕ → ℕ
companions T p = get_or T (512 + p) 0

-- the parts of a pair's number
abbrev pub depth : ℕ → ℕ
depth e = e / 256

abbrev pub one : ℕ → ℕ
one e = e / 16 % 16

abbrev pub other : ℕ → ℕ
other e = e % 16

-- p and q are a pair of the queue
abbrev pub Queued : List ℕ → ℕ → ℕ → ℕ → Type 0
Queued T count p q = (i : ℕ) × (i < count) × (one (pair T i) ≡ p) × (other (pair T i) ≡ q)

-- p and q are a pair of the queue, at depth d at most
abbrev pub Has : List ℕ → ℕ → ℕ → ℕ → ℕ → Type 0
Has T count d p q = (i : ℕ) × (i < count) × (depth (pair T i) ≤ d) × (one (pair T i) ≡ p) × (other (pair T i) ≡ q)

-- the first count pairs of the table are a queue: by depth, each pair once
pub record Queue (T : List ℕ) (count : ℕ) : Type 0 where
  pub size : length T ≡ 528
  pub room : count ≤ 256
  pub early : (i : ℕ) → i < count → depth (pair T i) ≤ i
  pub sorted : (i j : ℕ) → i ≤ j → j < count → depth (pair T i) ≤ depth (pair T j)
  pub once : (i j : ℕ) → i < j → j < count → pair T i % 256 ≡ pair T j % 256 → ⊥
  pub noted : (i : ℕ) → i < count → Member (companions T (one (pair T i))) (other (pair T i))
  pub listed : (p q : ℕ) → p < 16 → Member (companions T p) q → Queued T count p q

-- no pair lies deeper than d
abbrev pub AtMost : List ℕ → ℕ → ℕ → Type 0
AtMost T count d = (i : ℕ) → i < count → depth (pair T i) ≤ d

-- the first count pairs are the same in both
abbrev pub Keeps : List ℕ → ℕ → List ℕ → Type 0
Keeps T count T' = (i : ℕ) → i < count → (pair T' i ≡ pair T i) × (origin T' i ≡ origin T i)

-- pair i is of depth d, p and some q of S, and comes from o
pub record Fresh (T : List ℕ) (d p : ℕ) (S : ℕ → Type 0) (o i : ℕ) : Type 0 where
  pub deep : depth (pair T i) ≡ d
  pub left : one (pair T i) ≡ p
  pub right : S (other (pair T i))
  pub from : origin T i ≡ o

-- a longer queue: behind the count pairs of the first come pairs of p and members of S, which now are all there
pub record Longer (T : List ℕ) (count d p : ℕ) (S : ℕ → Type 0) (o : ℕ) (T' : List ℕ) (count' : ℕ) : Type 0 where
  pub queue : Queue T' count'
  pub more : count ≤ count'
  pub keeps : Keeps T count T'
  pub most : AtMost T' count' d
  pub fresh : (i : ℕ) → count ≤ i → i < count' → Fresh T' d p S o i
  pub has : (q : ℕ) → S q → Has T' count' d p q

-- a member of x below m
abbrev pub Below : ℕ → ℕ → ℕ → Type 0
Below x m q = (q < m) × Member x q

-- q, if it is a member of x
abbrev pub Only : ℕ → ℕ → ℕ → Type 0
Only x q r = (r ≡ q) × Member x r

-- what a pair p, q of depth d behind count pairs asks for
pub record Open (T : List ℕ) (count d p : ℕ) : Type 0 where
  pub queue : Queue T count
  pub most : AtMost T count d
  pub deep : d ≤ count
  pub state : p < 16
