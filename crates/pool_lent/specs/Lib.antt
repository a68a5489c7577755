pub mod Entries
pub mod EntriesLaws
pub mod Decided
