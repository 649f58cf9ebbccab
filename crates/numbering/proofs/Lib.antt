pub mod ExploreLaws
pub mod NumberingLaws
pub mod TableLaws
pub mod SameNumbering
