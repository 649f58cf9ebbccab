-- Document 01: which tuples a tracker has, and how they are numbered.
use Rattle.std.specs.Prelude.{ℕ, suc, ◌/◌, ◌%◌, ◌≤◌, ◌<◌, ◌≡◌, List, [], ◌∷◌, length, get_or}
use Rattle.automaton.specs.Automaton.{Automaton}
use Rattle.tuple.specs.Step.{Tuple, first, next}
use Rattle.tuple_record.specs.Record.{record_start, row_at, from_in, letter_in}
use Rattle.tuple.specs.Row.{row}

-- the tuple that a word leads to from u, letter by letter
unfoldable pub after_word : Automaton → Tuple → List ℕ → Tuple
after_word A u [] = u
after_word A u (l ∷ word) = after_word A (next A l u) word

-- words are words over the sheet's k letters
abbrev pub Word : Automaton → List ℕ → Type 0
Word A [] = Unit
Word A (l ∷ word) = (l < A.k) × Word A word

-- a reachable tuple: some word leads to it from the first tuple. No number enters into it.
pub record Reachable (A : Automaton) (u : Tuple) : Type 0 where
  pub word : List ℕ
  pub letters : Word A word
  pub is : after_word A (first A) word ≡ u

-- tuple number i of a list
abbrev pub tuple_at : Automaton → List Tuple → ℕ → Tuple
tuple_at A ts i = get_or ts i (first A)

-- no tuple twice: "Tuples are equal when sets and colour are."
abbrev pub Distinct : Automaton → List Tuple → Type 0
Distinct A ts = (i j : ℕ) → i < j → j < length ts → tuple_at A ts i ≡ tuple_at A ts j → ⊥

-- tuple by tuple, letters ascending: step c is from tuple c / 8 on letter c % 8
abbrev pub entered : Automaton → List Tuple → ℕ → Tuple
entered A ts c = next A (c % 8) (tuple_at A ts (c / 8))

-- tuple i is found by step c: it enters the tuple, and no step before it does
pub record FoundBy (A : Automaton) (ts : List Tuple) (i c : ℕ) : Type 0 where
  pub from : c / 8 < i
  pub letter : c % 8 < A.k
  pub enters : entered A ts c ≡ tuple_at A ts i
  pub earliest : (d : ℕ) → d < c → d % 8 < A.k → entered A ts d ≡ tuple_at A ts i → ⊥

-- "They are numbered as found": the first tuple is number 0, each other has its finding step, and these steps ascend
pub record Numbering (A : Automaton) (ts : List Tuple) : Type 0 where
  pub some : 0 < length ts
  pub begins : tuple_at A ts 0 ≡ first A
  pub distinct : Distinct A ts
  pub closed : (t l : ℕ) → t < length ts → l < A.k → (j : ℕ) × (j < length ts) × (tuple_at A ts j ≡ next A l (tuple_at A ts t))
  pub found : (i : ℕ) → 0 < i → i < length ts → (c : ℕ) × FoundBy A ts i c
  pub ordered : (i j c d : ℕ) → i < j → j < length ts → 0 < i → FoundBy A ts i c → FoundBy A ts j d → c < d

-- more than room tuples are reachable
pub record MoreThan (A : Automaton) (room : ℕ) : Type 0 where
  pub tuples : List Tuple
  pub count : length tuples ≡ suc room
  pub distinct : Distinct A tuples
  pub reachable : (i : ℕ) → i < length tuples → Reachable A (tuple_at A tuples i)

-- tuple t's way back: "the tuple and then the letter it was first found from (its own number and 0 for the first)", whatever the finding step goes by
pub record WayFrom (Finds : ℕ → Type 0) (t from letter : ℕ) : Type 0 where
  pub first : t ≡ 0 → (from ≡ 0) × (letter ≡ 0)
  pub found : 0 < t → (c : ℕ) × Finds c × (from ≡ c / 8) × (letter ≡ c % 8)

abbrev pub FirstFound : Automaton → List Tuple → ℕ → ℕ → ℕ → Type 0
FirstFound A ts t = WayFrom (FoundBy A ts t) t

-- the tuple table: of each tuple its sets and its colour, and behind them its way back; every other cell is zero
pub record TupleCells (A : Automaton) (ts : List Tuple) (tuples : List ℕ) : Type 0 where
  pub row : (t : ℕ) → t < length ts → row_at tuples t ≡ row (tuple_at A ts t)
  pub way : (t : ℕ) → t < length ts → FirstFound A ts t (from_in tuples t) (letter_in tuples t)
  pub zero : (i : ℕ) → record_start (length ts) ≤ i → get_or tuples i 0 ≡ 0

-- "its next on letter l is number 8t+l"; every other cell is zero
pub record NextCells (A : Automaton) (ts : List Tuple) (nexts : List ℕ) : Type 0 where
  pub next : (c : ℕ) → c / 8 < length ts → c % 8 < A.k → (get_or nexts c 0 < length ts) × (tuple_at A ts (get_or nexts c 0) ≡ entered A ts c)
  pub zero : (c : ℕ) → (c / 8 < length ts → c % 8 < A.k → ⊥) → get_or nexts c 0 ≡ 0
