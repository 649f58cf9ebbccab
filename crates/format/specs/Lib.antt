pub mod Format
pub mod Numbers
pub mod Withdrawals
pub mod Written
pub mod StandsFor
pub mod DistinctLaws
pub mod Unfold
