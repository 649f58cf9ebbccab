pub mod Search
pub mod JustifiedLaws
pub mod StartLaws
pub mod StepLaws
pub mod JoinLaws
pub mod SearchLaws
pub mod FoundLaws
