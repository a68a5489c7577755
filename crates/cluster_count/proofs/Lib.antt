pub mod Counting
pub mod Vectors
