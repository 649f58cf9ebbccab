-- A plan written in the names of its letters.
use Rattle.std.specs.Prelude.{ℕ, List, [], ◌++◌, map, length, get_or}
use Rattle.format.specs.Format.{Sheet, end_line}
use Rattle.plan_lines.specs.PlanLines.{plan_lines}
use Rattle.plan.specs.Plan.{plan_head}

-- the names of some letters, as the sheet spells them
abbrev pub names_of : Sheet → List ℕ → List (List ℕ)
names_of σ letters = map (λ l. get_or σ.names l []) letters

-- the text of a plan of these letters
unfoldable pub plan_text : Sheet → List ℕ → List ℕ → List ℕ
plan_text σ lead cycle = plan_head (length lead) (length cycle) ++ (plan_lines (names_of σ (lead ++ cycle)) ++ end_line)
