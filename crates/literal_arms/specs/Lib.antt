pub mod LiteralArmsLaws
