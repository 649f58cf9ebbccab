pub mod FileWay
pub mod Finish
pub mod FileWayLaws
