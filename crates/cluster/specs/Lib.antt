pub mod First
pub mod Call
pub mod SameLaws
pub mod FirstLaws
pub mod CallLaws
