pub mod FormatLaws
pub mod NumbersLaws
pub mod WithdrawalLaws
pub mod FinallyLaws
pub mod StandsForLaws
