pub mod WithdrawalLines
pub mod WithdrawalLaws
pub mod WithdrawalUniqueLaws
pub mod WithdrawalStepLaws
pub mod Unfold
