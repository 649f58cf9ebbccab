pub mod Parse
pub mod PhaseAnswers
pub mod HeadLaws
pub mod LettersRowsLaws
pub mod FileLaws
pub mod LettersOf
pub mod Unfold
