pub mod Rows
pub mod StringsLaws
pub mod FitLaws
