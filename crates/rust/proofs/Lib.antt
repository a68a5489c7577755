pub mod StillLaws
pub mod DepthLaws
pub mod HandsLaws
pub mod OneLaws
