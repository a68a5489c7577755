pub mod Queue
pub mod Calls
pub mod StreamLaws
pub mod CallsLaws
pub mod LookLaws
