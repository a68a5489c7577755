pub mod Profile
pub mod LoopLaws
