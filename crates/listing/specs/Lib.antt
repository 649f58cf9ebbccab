pub mod List
pub mod Finish
pub mod ListLaws
pub mod RewrittenList
