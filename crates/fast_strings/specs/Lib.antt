pub mod Contents
pub mod StaysLaws
pub mod ContentsLaws
