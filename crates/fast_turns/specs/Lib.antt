pub mod Steps
pub mod StepsLaws
