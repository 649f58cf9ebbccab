pub mod Verdict
pub mod Parts
pub mod VerdictLaws
