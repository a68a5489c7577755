pub mod FastStep
pub mod FastStepLaws
