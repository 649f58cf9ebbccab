pub mod Colour
pub mod ColourLaws
pub mod Unfold
