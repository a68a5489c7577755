pub mod ConsumeStringLiteral
pub mod ConsumeRawString
pub mod Delimited
pub mod TurnLaws
pub mod HashLaws
pub mod SafeLaws
pub mod DelimitedLaws
pub mod StandsLaws
