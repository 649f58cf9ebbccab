-- All definitions of this crate and of those below it that unfold, for laws that hold by computation.
use Rattle.parser.specs.Unfold.{parser_unfold}
use Rattle.plan_lines.specs.Unfold.{plan_lines_unfold}
use Rattle.plan.specs.Parse
use Rattle.plan.specs.Plan
use Rattle.plan.specs.NewNames

unfoldable pub plan_unfold : Unit {0}
unfolding parser_unfold plan_lines_unfold Parse.plan_head_of Parse.end_of Parse.plan_of Plan.plan_head NewNames.plan_text
plan_unfold = tt
