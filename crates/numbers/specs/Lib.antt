pub mod Places
pub mod ConsumeWhitespace
pub mod ConsumeNumber
pub mod PlaceLaws
pub mod NumberLaws
pub mod StandsLaws
