pub mod Seen
pub mod Next
pub mod Peek
pub mod LookAhead
pub mod Told
pub mod AnswerLaws
