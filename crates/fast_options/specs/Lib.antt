pub mod FormatOptions
pub mod ApartLaws
pub mod OptionsLaws
