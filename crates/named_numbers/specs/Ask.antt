-- What the questions on a sheet as numbers, with a sheet file for the names, answer.
use Rattle.std.specs.Prelude.{ℕ, ◌≡◌, List, Err, Ok, Result}
use Rattle.gate.specs.Gate.{refusal}
use Rattle.gate.specs.declared.Refusal.{Refusal}
use Rattle.automaton.specs.Automaton.{Automaton, graph_of, Fits, FirstNo}
use Rattle.automaton.specs.Endless.{MeetingFree}
use Rattle.lent.specs.Lent.{WitnessTables, cleared_witness, Meets}
use Rattle.format.specs.Format.{Withdrawal, Sheet}
use Rattle.format.specs.Withdrawals.{EdgesInForce}
use Rattle.parser.specs.LettersOf.{LettersIn}
use Rattle.reading.specs.Read.{Accepted, Refuses}

-- QUESTIONS 4, 7, 8, 16 AND 10 on numbers A where a file withdraws the letters of ws: the first that is answered no refuses with x
pub data NamedNumbersRefuse (A : Automaton) (ws : List Withdrawal) (before after : WitnessTables) (x : Refusal) : Type 0 where
  unfit : (number : ℕ) → FirstNo A number → x ≡ refusal number 0 → after ≡ cleared_witness before → NamedNumbersRefuse A ws before after x
  -- "a successor on a letter that this file withdraws is 16 too, with line 0"
  withdrawn : Fits A → (EdgesInForce (graph_of A) ws → ⊥) → x ≡ refusal 16 0 → after ≡ cleared_witness before → NamedNumbersRefuse A ws before after x
  meeting : Fits A → EdgesInForce (graph_of A) ws → Meets (graph_of A) before after x → NamedNumbersRefuse A ws before after x

-- the same, or all answered yes
abbrev pub ChecksNamed : Automaton → List Withdrawal → WitnessTables → WitnessTables → Result Unit Refusal → Type 0
ChecksNamed A ws before after (Err x) = NamedNumbersRefuse A ws before after x
ChecksNamed A ws before after (Ok tt) = Fits A × EdgesInForce (graph_of A) ws × MeetingFree (graph_of A) × (after ≡ cleared_witness before)

-- NUMBERS A with a file s for the names. Questions 2 to 10; the tables are the witness:
-- "that file's questions come first, then a differing k is 4, line 0, then the questions on the numbers"
pub data NamedRefuse (A : Automaton) (s : List ℕ) (before after : WitnessTables) (x : Refusal) : Type 0 where
  by_names : Refuses s before after x → NamedRefuse A s before after x
  by-letters : (σ : Sheet) → Accepted s σ → (σ.k ≡ A.k → ⊥) → x ≡ refusal 4 0 → after ≡ cleared_witness before → NamedRefuse A s before after x
  by-numbers : (σ : Sheet) → Accepted s σ → σ.k ≡ A.k → NamedNumbersRefuse A σ.withdrawals before after x → NamedRefuse A s before after x

-- all answered yes: s is the file of σ
pub record NamedAccepted (A : Automaton) (s : List ℕ) (σ : Sheet) : Type 0 where
  pub names : Accepted s σ
  pub letters : σ.k ≡ A.k
  pub fits : Fits A
  pub in-force : EdgesInForce (graph_of A) σ.withdrawals
  pub free : MeetingFree (graph_of A)

-- on numbers with the names' file s: refused, or all answered yes, with the file's letters in rows. The other tables are the witness.
abbrev pub Asks : Automaton → List ℕ → List ℕ → WitnessTables → WitnessTables → Result Unit Refusal → Type 0
Asks A s rows before after (Err x) = NamedRefuse A s before after x
Asks A s rows before after (Ok tt) = (σ : Sheet) × NamedAccepted A s σ × LettersIn σ A.k rows × (after ≡ cleared_witness before)
