pub mod Call
pub mod Plan
pub mod Numbers
pub mod CallLaws
pub mod PlanLaws
