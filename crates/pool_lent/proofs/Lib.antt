pub mod Numbers
pub mod Adds
