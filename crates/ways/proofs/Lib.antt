pub mod WayLaws
pub mod ShortestLaws
pub mod FittedWayLaws
