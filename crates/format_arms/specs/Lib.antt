pub mod Arms
pub mod ArmsLaws
