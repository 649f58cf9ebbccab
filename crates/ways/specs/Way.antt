-- Document 02, R-7: "Following these back from any tuple reaches tuple 0 and spells a shortest word to it."
use Rattle.std.specs.Prelude.{ℕ, zero, suc, ◌+◌, ◌≤◌, ◌<◌, ◌≡◌, List, ◌⊎◌, length, get_or}
use Rattle.gate.specs.Gate.{padded}
use Rattle.automaton.specs.Automaton.{Automaton}
use Rattle.tuple_record.specs.Record.{from_in, letter_in}
use Rattle.tuple.specs.Step.{Tuple, first}
use Rattle.numbering.specs.Numbering.{after_word, Word}

-- the number that following the cells of a tuple table back, i times, leads to from tuple t
unfoldable pub back : List ℕ → ℕ → ℕ → ℕ
back tuples t zero = t
back tuples t (suc i) = from_in tuples (back tuples t i)

-- it leads to tuple 0 in d steps, and not sooner
pub record Reaches (tuples : List ℕ) (t d : ℕ) : Type 0 where
  pub end : back tuples t d ≡ 0
  pub sooner : (i : ℕ) → i < d → back tuples t i ≡ 0 → ⊥

-- and spells, read backwards, this word: its last letter is the first that is met
pub record Spells (tuples : List ℕ) (t : ℕ) (word : List ℕ) : Type 0 where
  pub reaches : Reaches tuples t (length word)
  pub letter : (i j : ℕ) → i + suc j ≡ length word → get_or word j 0 ≡ letter_in tuples (back tuples t i)

-- the word that is spelled from tuple t, one of `count`, in a table of letters: its size, below the count, and zeros behind it
pub record Spelled (tuples : List ℕ) (count t : ℕ) (before after : List ℕ) (size : ℕ) : Type 0 where
  pub word : List ℕ
  pub spells : Spells tuples t word
  pub size_is : size ≡ length word
  pub few : size < count
  pub letters : after ≡ padded (length before) word

-- of two words as long, the one that comes first in the order of the letters: where they differ first, it has the smaller
pub record Precedes (word other : List ℕ) : Type 0 where
  pub place : ℕ
  pub within : place < length word
  pub alike : (i : ℕ) → i < place → get_or word i 0 ≡ get_or other i 0
  pub smaller : get_or word place 0 < get_or other place 0

-- a shortest word to u from the first tuple: no shorter word of the sheet's letters leads there; and of those as short it is the first
pub record ShortestWord (A : Automaton) (u : Tuple) (word : List ℕ) : Type 0 where
  pub letters : Word A word
  pub leads : after_word A (first A) word ≡ u
  pub least : (other : List ℕ) → Word A other → after_word A (first A) other ≡ u → length word ≤ length other
  pub earliest : (other : List ℕ) → Word A other → after_word A (first A) other ≡ u → length other ≡ length word → (other ≡ word) ⊎ Precedes word other
