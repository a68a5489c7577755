pub mod NameRun
pub mod NameRunLaws
