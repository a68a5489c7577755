pub mod TokenLexer
pub mod Hands
