pub mod Phase
pub mod Answers
pub mod FirstLaws
pub mod EndLaws
pub mod Unfold
