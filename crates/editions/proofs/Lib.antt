pub mod NumbersLaws
pub mod FileLaws
pub mod SameListing
pub mod SamePlans
