pub mod FillLaws
pub mod FittedLaws
pub mod FixedLaws
pub mod SameTracker
