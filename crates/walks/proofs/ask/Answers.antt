-- The states that count are those that begin an endless path, and a transition into one of these leaves one of these. Assumes nothing.
use Rattle.automaton.specs.EndlessLaws.{endless-back}
use Rattle.meeting.specs.AnswerLaws.{backwards-same, answer-same}
use Rattle.walks.proofs.ask.Goals as goal

pub search-requires : goal.search-requires
search-requires c = (c.requires, backwards-same c.states-counts.ensures endless-back)

pub returns : goal.returns
returns c = answer-same c.states-counts.ensures c.search.ensures
