pub mod ConsumeComment
pub mod CommentLaws
pub mod StandsLaws
