pub mod Fast
pub mod FastLaws
