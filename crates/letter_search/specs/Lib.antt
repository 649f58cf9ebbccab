pub mod Find
pub mod LetterOfLaws
pub mod FindLaws
