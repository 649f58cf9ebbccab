-- Document 01, "The files" and "The gate questions": what a plan file is, and which line of a file that is none is at fault.
use Rattle.std.specs.Prelude.{ℕ, ◌+◌, ◌≤◌, ◌<◌, ◌≡◌, List, [], ◌∷◌, ◌++◌, length}
use Rattle.columns.specs.Line.{numbers_line}
use Rattle.format.specs.Format.{Sheet, end_line}
use Rattle.plan_lines.specs.PlanLines.{plan_lines, most_plan, Known, PlanNameFault}

-- THE LINES

-- "`PLAN`, lead-in length (3), cycle length (3)"
abbrev pub plan_word : List ℕ
plan_word = 80 ∷ 76 ∷ 65 ∷ 78 ∷ []

unfoldable pub plan_head : ℕ → ℕ → List ℕ
plan_head lead cycle = numbers_line plan_word (lead ∷ cycle ∷ [])

-- THE QUESTIONS

-- "a lead-in of 0 to 200 letters and a cycle of 1 to 200": "Are both lengths in range? No: 13."
pub record LengthsRight (lead cycle : ℕ) : Type 0 where
  pub lead-most : lead ≤ 200
  pub cycle-some : 1 ≤ cycle
  pub cycle-most : cycle ≤ 200

-- A PLAN FILE over the sheet σ: its lead-in and its cycle, as letters
pub record PlanIs (σ : Sheet) (p : List ℕ) (lead cycle : List ℕ) : Type 0 where
  pub size : length p ≤ most_plan
  pub range : LengthsRight (length lead) (length cycle)
  pub names : List (List ℕ)
  pub known : Known σ names (lead ++ cycle)
  pub text : p ≡ plan_head (length lead) (length cycle) ++ (plan_lines names ++ end_line)

-- NO PLAN FILE. The lines above the faulty one are the first line and those of some known names.
pub record PlanAbove (σ : Sheet) (p : List ℕ) (lead cycle : ℕ) (names : List (List ℕ)) (rest : List ℕ) : Type 0 where
  pub range : LengthsRight lead cycle
  pub letters : List ℕ
  pub known : Known σ names letters
  pub text : p ≡ plan_head lead cycle ++ (plan_lines names ++ rest)

-- THE FAULT of a file: its number and its line
pub data PlanFaulty (σ : Sheet) (p : List ℕ) : ℕ → ℕ → Type 0 where
  -- "Is each plan line of its form? No: 12." The first line
  head : ((lead cycle : ℕ) (rest : List ℕ) → lead < 1000 → cycle < 1000 → p ≡ plan_head lead cycle ++ rest → ⊥) → PlanFaulty σ p 12 1
  -- "Are both lengths in range? No: 13."
  range : (lead cycle : ℕ) (rest : List ℕ) → lead < 1000 → cycle < 1000 → p ≡ plan_head lead cycle ++ rest → (LengthsRight lead cycle → ⊥) → PlanFaulty σ p 13 1
  -- 12 and 14: a name is due
  name : {number : ℕ} (lead cycle : ℕ) (names : List (List ℕ)) (rest : List ℕ) → PlanAbove σ p lead cycle names rest → length names < lead + cycle
      → PlanNameFault σ rest number → PlanFaulty σ p number (2 + length names)
  -- all names are there and END is due
  end : (lead cycle : ℕ) (names : List (List ℕ)) (rest : List ℕ) → PlanAbove σ p lead cycle names rest → length names ≡ lead + cycle
      → ((after : List ℕ) → rest ≡ end_line ++ after → ⊥) → PlanFaulty σ p 12 (2 + length names)
  -- "What follows `END` is a fault of the line after it: .. 12 in a plan."
  behind : (lead cycle : ℕ) (names : List (List ℕ)) (after : List ℕ) → PlanAbove σ p lead cycle names (end_line ++ after) → length names ≡ lead + cycle
      → (after ≡ [] → ⊥) → PlanFaulty σ p 12 (3 + length names)
