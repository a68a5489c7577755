pub mod Short
pub mod ShortLaws
