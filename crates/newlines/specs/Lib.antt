pub mod ConsumeNewline
pub mod PlainTurn
pub mod TurnLaws
pub mod SafeLaws
pub mod StandsLaws
