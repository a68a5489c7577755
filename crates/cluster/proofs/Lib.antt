pub mod Passing
pub mod Vectors
