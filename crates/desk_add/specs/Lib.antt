pub mod Add
pub mod PartsLaws
pub mod AddLaws
pub mod PromiseLaws
