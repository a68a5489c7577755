pub mod Profiles
pub mod ProfilesLaws
