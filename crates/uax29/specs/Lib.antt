pub mod Uax29
pub mod State
pub mod Uax29Laws
pub mod StateLaws
