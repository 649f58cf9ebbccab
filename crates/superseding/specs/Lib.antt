pub mod Superseding
pub mod SupersedingLaws
pub mod Unfold
