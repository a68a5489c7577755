pub mod Actions
pub mod ActionsLaws
