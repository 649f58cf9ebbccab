pub mod Row
pub mod Rows
pub mod ComposeLaws
pub mod RowLaws
pub mod RowsLaws
pub mod LetterLaws
pub mod Unfold
