pub mod TransitionLines
pub mod TransitionLaws
pub mod TransitionUniqueLaws
pub mod TransitionStepLaws
pub mod Unfold
