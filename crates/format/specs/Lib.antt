pub mod Parse
pub mod Read
pub mod ParseLaws
pub mod ReadLaws
