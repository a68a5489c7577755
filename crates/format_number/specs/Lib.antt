pub mod Number
pub mod PeekLaws
pub mod NumberLaws
