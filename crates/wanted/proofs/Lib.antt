pub mod StartLaws
pub mod WriteLaws
