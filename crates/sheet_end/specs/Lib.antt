pub mod Split
pub mod SplitLaws
