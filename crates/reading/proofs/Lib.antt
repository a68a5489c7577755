pub mod WorthLaws
pub mod PotentialLaws
