-- Document 01, "The verdict": the run of an endless plan, over tuples and not over a table.
use Rattle.std.specs.Prelude.{ℕ, ◌+◌, ◌*◌, ◌%◌, ◌≤◌, ◌<◌, ◌≡◌, Bool, true, false}
use Rattle.automaton.specs.Automaton.{Automaton}
use Rattle.automaton.specs.Reading.{Passes}
use Rattle.tuple.specs.Step.{Tuple, run, colour_entered}
use Rattle.passes.specs.declared.Answer.{Answer}
use Rattle.passes.specs.declared.Answer.TheVariants.{Yes, No}
use Rattle.passes.specs.declared.Verdict.{Verdict}

-- the tuple at the end of pass i; "the lead-in's end is the zeroth". The lead-in has m letters, the cycle c.
abbrev pub pass_end : Automaton → (ℕ → ℕ) → ℕ → ℕ → ℕ → Tuple
pass_end A w m c i = run A w (m + i * c)

-- "Passes of the cycle are run until the tuple at a pass's end equals one at an earlier end": pass b is the first such, and a the earlier
pub record FirstRepeat {X : Type 0} (end : ℕ → X) (a b : ℕ) : Type 0 where
  pub earlier : a < b
  pub equal : end a ≡ end b
  pub first : (i j : ℕ) → i < j → j < b → end i ≡ end j → ⊥

-- the least value of f from a on, before b
pub record LeastOf (f : ℕ → ℕ) (a b least : ℕ) : Type 0 where
  pub at : ℕ
  pub from : a ≤ at
  pub before : at < b
  pub is : f at ≡ least
  pub lowest : (s : ℕ) → a ≤ s → s < b → least ≤ f s

-- "the least colour entered after the earlier of the two equal ends, up to and with the later": the ends lie at t and u,
-- and the letters from t on, before u, enter these colours
abbrev pub LeastColour : Automaton → (ℕ → ℕ) → ℕ → ℕ → ℕ → Type 0
LeastColour A w t u least = LeastOf (colour_entered A w) t u least

-- "The plan is passed, and the answer is yes, if the least colour .. is even; else the answer is no."
abbrev pub AnswerIs : ℕ → Answer → Type 0
AnswerIs least Yes = least % 2 ≡ 0
AnswerIs least No = least % 2 ≡ 1

-- the answer as a truth value
abbrev pub is_yes : Answer → Bool
is_yes Yes = true
is_yes No = false

-- THE VERDICT on an endless word with a lead-in of m letters and a cycle of c: "The count of passes is reported"
pub record Judges (A : Automaton) (w : ℕ → ℕ) (m c : ℕ) (z : Verdict) : Type 0 where
  pub earlier : ℕ
  pub repeat : FirstRepeat (pass_end A w m c) earlier z.passes
  pub least : LeastColour A w (m + earlier * c) (m + z.passes * c) z.least
  pub answer : AnswerIs z.least z.answer

-- DEMAND 3. The answer is yes exactly if the sheet passes the plan: some endless reading visits must-recur states without end or, of an SHT-2, takes
-- marked transitions without end.
abbrev pub Sound : Automaton → (ℕ → ℕ) → Answer → Type 0
Sound A w Yes = Passes A w
Sound A w No = Passes A w → ⊥
