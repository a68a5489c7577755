pub mod Skip
pub mod SkipLaws
pub mod PastLaws
