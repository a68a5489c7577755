pub mod Parts
pub mod Table
pub mod Near
pub mod TableLaws
