pub mod Wrong
pub mod Table
pub mod TableLaws
