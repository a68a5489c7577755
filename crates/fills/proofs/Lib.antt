pub mod Filling
pub mod Vectors
