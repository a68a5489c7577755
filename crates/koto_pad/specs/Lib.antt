pub mod Pads
pub mod PadsLaws
