pub mod Cells
pub mod CopyLaws
