pub mod PlainNames
pub mod PlainNamesLaws
