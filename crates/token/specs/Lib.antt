pub mod Kind
pub mod Detail
pub mod Token
pub mod DetailLaws
