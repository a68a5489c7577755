pub mod Kept
pub mod NewLineLaws
pub mod ResumeLaws
pub mod OldListLaws
