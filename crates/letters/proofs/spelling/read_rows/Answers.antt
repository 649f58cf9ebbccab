-- The theorem on reading a file, for its letters. Assumes nothing.
use Rattle.automaton.specs.Automaton.{transition_sets}
use Rattle.parser.specs.Parse.{empty_sets}
use Rattle.letters.specs.AnswersLaws.{letters-read}
use Rattle.letters.proofs.spelling.read_rows.Goals as goal

pub returns : goal.returns
returns c =
    let z = c.read_file in
    let a = c.args in
    letters-read a.s.now empty_sets (transition_sets z.new.table z.new.marks) a.rows.now z.new.rows z.result z.ensures
