pub mod RescanLaws
pub mod UnalteredLaws
