pub mod Brackets
pub mod BracketsLaws
