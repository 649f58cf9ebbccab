pub mod InForce
pub mod Ask
pub mod InForceLaws
pub mod AskLaws
