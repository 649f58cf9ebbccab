pub mod Closed
pub mod ClosedLaws
pub mod NonConfluence
