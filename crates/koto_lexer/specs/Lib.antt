pub mod Scans
pub mod CallsLaws
