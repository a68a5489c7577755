pub mod Writes
pub mod WritesLaws
