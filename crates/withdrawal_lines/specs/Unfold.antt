-- All definitions of this crate and of those below it that unfold, for laws that hold by computation.
use Rattle.frame.specs.Unfold.{frame_unfold}
use Rattle.format.specs.Unfold.{format_unfold}
use Rattle.withdrawal_lines.specs.WithdrawalLines

unfoldable pub withdrawal_lines_unfold : Unit {0}
unfolding frame_unfold format_unfold WithdrawalLines.withdrawal_of WithdrawalLines.withdrawal_line_at WithdrawalLines.withdrawals_at
withdrawal_lines_unfold = tt
