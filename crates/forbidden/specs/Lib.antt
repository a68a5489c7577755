pub mod Forbidden
pub mod Pass
