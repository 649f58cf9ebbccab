-- A plan file read from the top, line by line: questions 12 to 14 in the order in which a reader asks them. The sheet's names are given
-- composed, its superseding letters as cells. That this is what Plan describes is a theorem. A byte past the end is 0, and 0 stands in no line.
use Rattle.std.specs.Prelude.{ℕ, ◌+◌, List, []}
use Rattle.columns.specs.Pair.{word_and_pair}
use Rattle.frame.specs.declared.Bounds.{Bounds}
use Rattle.frame.specs.Phase.{Phase, passed, and_then, first_phase, end_at}
use Rattle.plan.specs.declared.PlanLengths.{PlanLengths}
use Rattle.plan.specs.Plan.{plan_word}
use Rattle.plan_lines.specs.LetterLines.{Lettered, letters_at}

-- how many letters lead-in and cycle have
abbrev pub lengths : ℕ → ℕ → PlanLengths
lengths lead cycle = record { lead = lead; cycle = cycle }

-- THE FIRST LINE

-- "a lead-in of 0 to 200 letters and a cycle of 1 to 200"
abbrev pub plan_bounds : Bounds
plan_bounds = record { least = 0; most = 200; low = 1; high = 200 }

-- "Is each plan line of its form? No: 12.": PLAN, lead-in length, cycle length, LF. "Are both lengths in range? No: 13."
unfoldable pub plan_head_of : List ℕ → Phase PlanLengths
plan_head_of p = first_phase (word_and_pair p plan_word) plan_bounds lengths 12 13

-- THE END

-- "`END`", "What follows `END` is a fault of the line after it: .. 12 in a plan."
unfoldable pub end_of : List ℕ → Lettered → Phase (List ℕ)
end_of p y = end_at 12 p y.line y.at y.letters

-- THE WHOLE FILE

-- what a plan file holds: how long its lead-in and its cycle are, and the letters of both
pub record PlanContents : Type 0 where
  pub lead : ℕ
  pub cycle : ℕ
  pub letters : List ℕ

-- what was read in each phase, put together
abbrev pub plan_contents : PlanLengths → List ℕ → PlanContents
plan_contents z letters = record { lead = z.lead; cycle = z.cycle; letters = letters }

-- the phases behind the first line
abbrev pub after_plan_head : List (List ℕ) → List ℕ → List ℕ → PlanLengths → Phase PlanContents
after_plan_head names cells p z =
    and_then (letters_at names cells p 2 11 [] (z.lead + z.cycle)) (λ y. and_then (end_of p y) (λ letters. passed (plan_contents z letters)))

-- the whole file
unfoldable pub plan_of : List (List ℕ) → List ℕ → List ℕ → Phase PlanContents
plan_of names cells p = and_then (plan_head_of p) (after_plan_head names cells p)
