pub mod RescanLaws
