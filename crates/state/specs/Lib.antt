pub mod Modes
pub mod Lexer
pub mod State
pub mod Stack
pub mod StackLaws
