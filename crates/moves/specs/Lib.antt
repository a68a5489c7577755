pub mod Moves
pub mod MovesLaws
