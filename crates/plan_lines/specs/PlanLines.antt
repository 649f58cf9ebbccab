-- Document 01, "The files" and "The gate questions": what the name lines of a plan file are, which letters they stand for, and what is at
-- fault where one is due.
use Rattle.std.specs.Prelude.{ℕ, ◌≡◌, List, [], ◌∷◌, ◌++◌}
use Rattle.text.specs.Bytes.{lf}
use Rattle.names.specs.Name.{IsName}
use Rattle.format.specs.Format.{Sheet}
use Rattle.format.specs.StandsFor.{StandsFor}

-- "Is .. the plan at most 12,288? No: 2."
abbrev pub most_plan : ℕ
most_plan = 12288

-- "one name a line, lead-in first"
unfoldable pub plan_lines : List (List ℕ) → List ℕ
plan_lines [] = []
plan_lines (x ∷ xs) = x ++ (lf ∷ plan_lines xs)

-- "Is each name known? No: 14.": names, each with the letter that it stands for
pub data Known (σ : Sheet) : List (List ℕ) → List ℕ → Type 0 where
  none : Known σ [] []
  more : {x : List ℕ} {l : ℕ} {xs : List (List ℕ)} {ls : List ℕ} → StandsFor σ x l → Known σ xs ls → Known σ (x ∷ xs) (l ∷ ls)

-- the faults where a name is due; the rest of the file starts there
pub data PlanNameFault (σ : Sheet) (rest : List ℕ) : ℕ → Type 0 where
  -- "Is each plan line of its form? No: 12."
  wrong_name : ((x after : List ℕ) → IsName x → rest ≡ x ++ (lf ∷ after) → ⊥) → PlanNameFault σ rest 12
  -- "Is each name known? No: 14."
  unknown-name : (x after : List ℕ) → IsName x → rest ≡ x ++ (lf ∷ after) → ((l : ℕ) → StandsFor σ x l → ⊥) → PlanNameFault σ rest 14
