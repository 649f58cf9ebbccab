-- The name of a letter and its companion number: questions 2 to 9 and 14.
use Rattle.std.specs.Prelude.{ℕ, ◌≤◌, ◌<◌, ◌≡◌, List, [], get_or}
use Rattle.gate.specs.Gate.{refusal}
use Rattle.gate.specs.declared.Refusal.{Refusal}
use Rattle.format.specs.Format.{Sheet, FileIs, Faulty}

-- "The stretch is empty where questions 2 to 9 refuse the sheet or it has no such letter (14, line 0)"
pub data NoName (s : List ℕ) (letter : ℕ) : ℕ → ℕ → Type 0 where
  faulty : {number line : ℕ} → Faulty s number line → NoName s letter number line
  unknown : (σ : Sheet) → FileIs s σ → σ.k ≤ letter → NoName s letter 14 0

-- "The name of a letter is given as that very stretch of the sheet file, in the spelling found there."
pub data NameIs (s : List ℕ) (letter : ℕ) (name : List ℕ) : Type 0 where
  spelled : (σ : Sheet) → FileIs s σ → letter < σ.k → name ≡ get_or σ.names letter [] → NameIs s letter name
  nothing : (number line : ℕ) → NoName s letter number line → name ≡ [] → NameIs s letter name

-- "a companion call gives that number", and 0 and 0 where there is a name
pub data NumberIs (s : List ℕ) (letter : ℕ) (r : Refusal) : Type 0 where
  named : (σ : Sheet) → FileIs s σ → letter < σ.k → r ≡ refusal 0 0 → NumberIs s letter r
  refused : (number line : ℕ) → NoName s letter number line → r ≡ refusal number line → NumberIs s letter r
