pub mod PlanLines
pub mod LetterLines
pub mod KnownLaws
pub mod LineLaws
pub mod StepLaws
pub mod Unfold
