pub mod Slide
pub mod HeadLaws
pub mod SlideLaws
