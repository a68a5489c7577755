pub mod ConsumeFormatOptions
pub mod StandsLaws
