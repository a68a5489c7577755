pub mod Lead
pub mod Tags
pub mod Turns
pub mod Vectors
