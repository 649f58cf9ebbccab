-- The outcome of a case, computed question by question, against what is expected.
use Rattle.std.specs.Prelude.{ℕ, ◌*◌, Bool, true, false, not, ◌&&◌, List, [], ◌∷◌, map, eqb, ltb, length, take, drop}
use Rattle.lists.specs.Search.{same}
use Rattle.lists.specs.Choice.{choose}
use Rattle.automaton.specs.Automaton.{Automaton, graph_of}
use Rattle.format.specs.Format.{most_sheet}
use Rattle.parser.specs.Parse.{parse}
use Rattle.frame.specs.Phase.{Phase, refused, passed}
use Rattle.parser.specs.Parse as S
use Rattle.tuple.specs.Step.{Tuple}
use Rattle.numbering.specs.Explore.{found}
use Rattle.plan_lines.specs.PlanLines.{most_plan}
use Rattle.passes.specs.Letter.{letter_at}
use Rattle.plan.specs.Parse.{plan_of}
use Rattle.plan.specs.Parse as P
use Rattle.known.specs.Case.{Expected, judged, meeting, Case}
use Rattle.known.specs.Case as E
use Rattle.known.specs.MeetingTest.{is_free, is_shortest}
use Rattle.known.specs.VerdictTest.{is_verdict}

-- the tuples that are found by the steps of the first R tuples: all, where there are at most R
abbrev pub tuples_in : Automaton → ℕ → List Tuple
tuples_in A room = found A (8 * room)

-- a refusal is the expected one
unfoldable pub is_refused : ℕ → ℕ → Expected → Bool
is_refused number line (E.refused n l) = eqb number n && eqb line l
is_refused number line (judged z colours) = false
is_refused number line (meeting word one other) = false

-- questions 12 to 14, and the verdict
unfoldable pub right_plan : Automaton → Phase P.PlanContents → Expected → Bool
right_plan A (refused number line) e = is_refused number line e
right_plan A (passed y) (judged z colours) =
    is_verdict A (letter_at (take y.lead y.letters) (drop y.lead y.letters)) y.lead y.cycle z
right_plan A (passed y) (E.refused number line) = false
right_plan A (passed y) (meeting word one other) = false

-- the tuples of the tracker have the expected colours
unfoldable pub right_colours : List Tuple → Expected → Bool
right_colours ts (judged z colours) = same (map (λ u. u.colour) ts) colours
right_colours ts (E.refused number line) = true
right_colours ts (meeting word one other) = false

-- question 11 on the tuples that are found
unfoldable pub right_room : Automaton → List Tuple → List (List ℕ) → List ℕ → List ℕ → ℕ → Expected → Bool
right_room A ts names cells p room e =
    choose (ltb room (length ts)) (is_refused 11 0 e) (right_colours ts e && right_plan A (plan_of names cells p) e)

-- question 10
unfoldable pub right_walks : Automaton → List (List ℕ) → List ℕ → List ℕ → ℕ → Expected → Bool
right_walks A names cells p room (meeting word one other) = is_shortest (graph_of A) word one other
right_walks A names cells p room (judged z colours) = is_free (graph_of A) && right_room A (tuples_in A room) names cells p room (judged z colours)
right_walks A names cells p room (E.refused number line) = is_free (graph_of A) && right_room A (tuples_in A room) names cells p room (E.refused number line)

-- questions 3 to 9, 15 and 16
unfoldable pub right_file : Phase S.Contents → List ℕ → ℕ → Expected → Bool
right_file (refused number line) p room e = is_refused number line e
right_file (passed x) p room e = right_walks x.numbers x.names x.superseding p room e

-- question 2, and the others
unfoldable pub right : Case → Bool
right c =
    not (ltb most_sheet (length c.sheet))
    && (not (ltb most_plan (length c.plan)) && right_file (parse c.sheet) c.plan c.room c.expected)

-- each case of a table is as expected
unfoldable pub all_right : List Case → Bool
all_right [] = true
all_right (c ∷ cs) = right c && all_right cs
