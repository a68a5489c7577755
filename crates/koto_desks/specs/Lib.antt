pub mod Words
pub mod Strings
pub mod Formats
pub mod Compacts
pub mod StringsLaws
pub mod FormatsLaws
pub mod CompactsLaws
pub mod CallsLaws
