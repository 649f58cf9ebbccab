-- All definitions of this crate and of those below it that unfold, for laws that hold by computation.
use Rattle.finite.specs.Unfold.{finite_unfold}
use Rattle.plan.specs.Unfold.{plan_unfold}
use Rattle.numbering.specs.Unfold.{numbering_unfold}
use Rattle.passes.specs.Unfold.{passes_unfold}
use Rattle.known.specs.Below
use Rattle.known.specs.CaseTest
use Rattle.known.specs.MeetingTest
use Rattle.known.specs.VerdictTest

unfoldable pub known_unfold : Unit {0}
unfolding finite_unfold plan_unfold numbering_unfold passes_unfold Below.all Below.any CaseTest.is_refused CaseTest.right_plan CaseTest.right_colours
    CaseTest.right_room CaseTest.right_walks CaseTest.right_file CaseTest.right CaseTest.all_right MeetingTest.is_edge MeetingTest.has_path MeetingTest.is_endless MeetingTest.pair_reached
    MeetingTest.together MeetingTest.join_at MeetingTest.none_up_to MeetingTest.is_free MeetingTest.is_walk MeetingTest.do_meet MeetingTest.is_shortest
    VerdictTest.ends VerdictTest.earlier_of VerdictTest.is_repeat VerdictTest.least_entered VerdictTest.is_answer VerdictTest.is_least
    VerdictTest.is_verdict
known_unfold = tt
