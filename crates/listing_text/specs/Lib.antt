pub mod Listing
pub mod PutLaws
pub mod SameListing
pub mod ListingLaws
