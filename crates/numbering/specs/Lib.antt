pub mod Numbering
pub mod Explore
pub mod Unfold
