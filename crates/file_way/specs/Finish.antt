-- The last part of the call, behind building: what it asks of the tracker, and what it answers.
use Rattle.std.specs.Prelude.{ℕ, ◌≤◌, ◌<◌, ◌≡◌, List, length, Err, None, Ok, Option, Result, Some}
use Rattle.gate.specs.Gate.{cleared}
use Rattle.gate.specs.declared.Refusal.{Refusal}
use Rattle.tracker.specs.declared.Tracker.{Tracker}
use Rattle.ways.specs.Way.{Spelled}
use Rattle.ways.specs.Spell.{LeadsDown}

-- the tracker's ways back lead down, and there is a letter for each of its tuples
abbrev pub Followable : Result Tracker Refusal → List ℕ → List ℕ → Type 0
Followable (Err r) tuples letters = Unit
Followable (Ok x) tuples letters = LeadsDown tuples x.tuples × (x.tuples ≤ length letters)

pub data Finished (b : Result Tracker Refusal) (t : ℕ) (tuples before after : List ℕ) (w : Result (Option ℕ) Refusal) : Type 0 where
  refused : (r : Refusal) → b ≡ Err r → w ≡ Err r → after ≡ cleared before → Finished b t tuples before after w
  none : (x : Tracker) → b ≡ Ok x → x.tuples ≤ t → w ≡ Ok None → after ≡ cleared before → Finished b t tuples before after w
  shown : (x : Tracker) → b ≡ Ok x → t < x.tuples → (size : ℕ) → Spelled tuples x.tuples t before after size → w ≡ Ok (Some size)
      → Finished b t tuples before after w
