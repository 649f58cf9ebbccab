pub mod RowName
pub mod LineLaws
pub mod RowNameLaws
