pub mod Run
pub mod Endless
