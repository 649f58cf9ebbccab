pub mod Triangle
pub mod Joining
pub mod Extending
pub mod Cutting
pub mod Bound
