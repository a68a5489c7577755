pub mod Keep
pub mod KeepLaws
