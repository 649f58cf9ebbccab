pub mod FileWrite
pub mod Same
pub mod FileWriteLaws
