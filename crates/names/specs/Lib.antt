pub mod Name
pub mod Scan
pub mod PartLaws
pub mod NameLaws
pub mod ScanLaws
pub mod Unfold
