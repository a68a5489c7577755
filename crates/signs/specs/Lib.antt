pub mod Signs
pub mod SignsLaws
pub mod Table
pub mod TableLaws
