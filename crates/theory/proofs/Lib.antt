pub mod Endless
pub mod Basic
pub mod Odd
pub mod Even
pub mod Repeating
pub mod Theorem
