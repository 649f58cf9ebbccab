pub mod Rewritten
pub mod Unfold
