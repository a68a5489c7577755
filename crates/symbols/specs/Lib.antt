pub mod Symbols
pub mod Groups
pub mod SymbolsLaws
