-- Document 01: "There the sheet reaches to the first line that is just END (to the end of input if none)".
use Rattle.std.specs.Prelude.{ℕ, ◌+◌, ◌<◌, ◌≡◌, List, ◌++◌, length, get_or, drop}
use Rattle.text.specs.Bytes.{lf, end_line}

-- a line starts at a: at the front, or behind an LF
abbrev pub LineStart : List ℕ → ℕ → Type 0
LineStart s a = (i : ℕ) → i + 1 ≡ a → get_or s i 0 ≡ lf

-- the line that starts at a is just END, with its LF
pub record EndLine (s : List ℕ) (a : ℕ) : Type 0 where
  pub start : LineStart s a
  pub rest : List ℕ
  pub is : drop a s ≡ end_line ++ rest

-- where the sheet ends: behind the first such line, or at the end of the input where there is none
pub data SheetEnds (s : List ℕ) (e : ℕ) : Type 0 where
  behind : (a : ℕ) → e ≡ a + 4 → EndLine s a → ((b : ℕ) → b < a → EndLine s b → ⊥) → SheetEnds s e
  nowhere : e ≡ length s → ((b : ℕ) → EndLine s b → ⊥) → SheetEnds s e
