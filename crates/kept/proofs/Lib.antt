pub mod ReadingLaws
pub mod RescanLaws
