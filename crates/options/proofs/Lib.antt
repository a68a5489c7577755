pub mod Search
pub mod Alignment
pub mod Vectors
