pub mod Answer
pub mod AnswerLaws
pub mod Trace
pub mod TraceLaws
pub mod LastLetterLaws
pub mod WitnessLaws
