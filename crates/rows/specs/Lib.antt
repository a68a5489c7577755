pub mod First
pub mod Store
pub mod Row
pub mod FirstLaws
pub mod StoreLaws
pub mod RowLaws
