pub mod WithoutEndLaws
pub mod LeastLaws
pub mod Theorem
pub mod PremiseNeeded
pub mod BuiltLaws
pub mod PlanLaws
pub mod DisplayLaws
