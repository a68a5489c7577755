pub mod PlainStep
pub mod PlainStepLaws
