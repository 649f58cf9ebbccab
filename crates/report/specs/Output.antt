-- What the function of a program leaves in the buffer that it is lent, and how much of its input it has to be given.
use Rattle.std.specs.Prelude.{ℕ, ◌≤◌, ◌<◌, ◌≡◌, List, ◌↔◌, length}
use Rattle.gate.specs.Gate.{lent_text}

-- "(room 1,024)", in each program
abbrev pub program_room : ℕ
program_room = 1024

-- A PROGRAM'S FUNCTION. Output: the texts that the program may print, of which none is longer than `longest` bytes.
pub data Prints (Output : List ℕ → Type 0) (longest : ℕ) (before after : List ℕ) (count : ℕ) : Type 0 where
  -- a buffer that is shorter than the longest output: no byte, and nothing is touched
  short : length before < longest → count ≡ 0 → after ≡ before → Prints Output longest before after count
  -- the output, with zeros behind it
  printed : longest ≤ length before → (text : List ℕ) → Output text → count ≡ length text → length text ≤ longest → after ≡ lent_text text before
      → Prints Output longest before after count

-- every input of more than `most` bytes is answered with one line and with nothing else
abbrev pub TooLong : (List ℕ → List ℕ → Type 0) → ℕ → List ℕ → Type 0
TooLong Output most line = (s text : List ℕ) → most < length s → Output s text ↔ (text ≡ line)
