pub mod Wanted
pub mod Candidate
pub mod SmallLaws
pub mod TailLaws
pub mod BackLaws
