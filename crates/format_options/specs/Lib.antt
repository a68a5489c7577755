pub mod Options
pub mod Letters
pub mod LettersLaws
