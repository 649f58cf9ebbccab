pub mod Track
pub mod Parts
pub mod TrackLaws
pub mod OnceLaws
