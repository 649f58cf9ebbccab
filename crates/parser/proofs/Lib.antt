pub mod ParseLaws
pub mod CompleteLaws
pub mod UniqueLaws
pub mod LettersOfLaws
