pub mod Letters
pub mod Spelling
pub mod Answers
pub mod AnswersLaws
pub mod SpellingLaws
pub mod LettersLaws
