pub mod PlainCode
pub mod PlainCodeLaws
