pub mod Verdict
pub mod Parts
pub mod PlanLaws
pub mod ShortLaws
pub mod NewNamesLaws
