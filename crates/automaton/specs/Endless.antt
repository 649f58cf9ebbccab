-- Document 02, R-4: "As in document 001, only endless runs count from now on: walks meet only if the shared state begins some endless path
-- of transitions."
use Rattle.std.specs.Prelude.{ℕ, suc, ◌≤◌, ◌≡◌, List}
use Rattle.automaton.specs.Graph.{Graph, Edge}
use Rattle.automaton.specs.Meeting.{Free, Witness}
use Rattle.automaton.specs.Reading.{Reading}

-- an endless path of transitions, over any letters of the sheet: its states are x 0, x 1 and so on
abbrev pub EndlessPath : Graph → (ℕ → ℕ) → Type 0
EndlessPath G x = (t : ℕ) → (l : ℕ) × Edge G l (x t) (x (suc t))

-- q "begins some endless path of transitions"
abbrev pub EndlessFrom : Graph → ℕ → Type 0
EndlessFrom G q = (x : ℕ → ℕ) × (x 0 ≡ q) × EndlessPath G x

-- QUESTION 10, "Is the sheet free of meeting walks?": no two walks meet at a state that begins an endless path
abbrev pub MeetingFree : Graph → Type 0
MeetingFree G = Free G (EndlessFrom G)

-- No: "10, with the walks". "The witness shows such a state": the word, of t letters, is a shortest one whose two walks meet at one
abbrev pub MeetingWitness : Graph → ℕ → List ℕ → List ℕ → List ℕ → Type 0
MeetingWitness G t word one other = Witness G (EndlessFrom G) t word one other

-- Document 001, Definition 1: "non-confluent if for every word α the following holds: if ξ1 and ξ2 are two runs .. on α that intersect at a
-- position t0 (i.e. ξ1(t0) = ξ2(t0) holds), then we have ξ1(t) = ξ2(t) for every t ≤ t0". A run is a reading of an endless word. It is the
-- same as MeetingFree: endless/specs/NonConfluence.antt.
abbrev pub NonConfluent : Graph → Type 0
NonConfluent G = (w x y : ℕ → ℕ) → Reading G w x → Reading G w y → (t : ℕ) → x t ≡ y t → (s : ℕ) → s ≤ t → x s ≡ y s
