-- All definitions of this crate and of those below it that unfold, for laws that hold by computation.
use Rattle.name_rows.specs.Unfold.{name_rows_unfold}
use Rattle.superseding.specs.Unfold.{superseding_unfold}
use Rattle.automaton.specs.Unfold.{automaton_unfold}
use Rattle.format.specs.Format
use Rattle.format.specs.Numbers
use Rattle.format.specs.Withdrawals
use Rattle.format.specs.Written

unfoldable pub format_unfold : Unit {0}
unfolding name_rows_unfold superseding_unfold automaton_unfold Format.head_line Format.name_line Format.withdrawal_line Format.state_line Format.transition_line
    Format.name_lines Format.withdrawal_lines Format.state_lines Format.transition_lines Format.lines Numbers.flag_set Numbers.inserted Numbers.table_of Numbers.marked_of
    Numbers.numbers Withdrawals.withdrawn_in Withdrawals.superseding_of Written.states_of Written.transitions_of Written.sheet_of Written.written_sheet
    Written.written
format_unfold = tt
