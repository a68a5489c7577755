pub mod Rescans
pub mod RescansLaws
