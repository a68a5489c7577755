pub mod ConsumeIdOrKeyword
pub mod Decided
pub mod NameLaws
pub mod StandsLaws
