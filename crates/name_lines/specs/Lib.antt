pub mod NameLines
pub mod NameLaws
pub mod NameUniqueLaws
pub mod NameStepLaws
pub mod Unfold
