pub mod TokenLaws
pub mod StepLaws
pub mod ReadingLaws
pub mod ScanLaws
