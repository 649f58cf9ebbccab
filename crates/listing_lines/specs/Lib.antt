pub mod ListingLine
pub mod PutLine
pub mod PutLineLaws
