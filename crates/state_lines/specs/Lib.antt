pub mod StateLines
pub mod StateLaws
pub mod StateUniqueLaws
pub mod StateStepLaws
pub mod Unfold
